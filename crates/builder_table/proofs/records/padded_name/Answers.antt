-- `builder_table::records::padded_name` meets its contract. Assumes nothing.
use mathlib.Core.Path.{◌∙◌}
use Rattle.builder_table.proofs.Laws.{name_padded}
use Rattle.builder_table.proofs.records.padded_name.Goals as goal

pub returns : goal.returns
returns c =
    c.store.ensures ∙ name_padded c.args.name.now
