use Rattle.std.proofs.Common.{[], ◌∙◌, ap, sym, subst, IsUtf8}
use Rattle.std.specs.Option.{option_map_or}
use Rattle.star_model.specs.declared.catalogue.TableDef.{TableDef}
use Rattle.table_taking.proofs.names.file_of.Goals as goal

pub text_of-requires : goal.text_of-requires
text_of-requires c = subst IsUtf8 (sym c.as_slice.ensures) c.table_of.ensures.formed.file

pub returns : goal.returns
returns c = c.text_of.ensures ∙ c.as_slice.ensures ∙ sym
    (ap (λ o. option_map_or (λ (t : TableDef). t.file) o []) c.table_of.ensures.is)
