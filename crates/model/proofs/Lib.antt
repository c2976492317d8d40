pub mod ExamplesLaws
pub mod ExpiryLaws
pub mod HalvesLaws
pub mod InvariantLaws
pub mod ListenExamplesLaws
pub mod RepeatsLaws
pub mod ReplyExamplesLaws
pub mod Without16Laws
