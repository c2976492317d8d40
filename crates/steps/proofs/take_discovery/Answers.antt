-- What the page's arrival ensures is the step's outcome.
-- Assumes nothing.
use Rattle.receiver.specs.View.{with_discovery_rows}
use Rattle.steps.specs.Laws.{takes_discovery}
use Rattle.steps.proofs.take_discovery.Goals as goal

pub returns : goal.returns
returns c m out =
    let v = c.args in
    takes_discovery v.settings v.reading v.packet v.name.now v.list.now v.receiver (with_discovery_rows v.sources.now v.names.now v.pages.now v.universes.now m) out
    c.page_arrives-a.result c.page_arrives-a.new.sources c.page_arrives-a.new.names c.page_arrives-a.new.pages c.page_arrives-a.new.universes c.called_answer.result
    c.requires.name c.requires.list c.page_arrives-a.ensures c.called_answer.ensures.answer
