pub mod TheoremLaws
