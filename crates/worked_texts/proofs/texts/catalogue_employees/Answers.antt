-- Written by tools/worked_texts.
use Rattle.std.proofs.Common.{refl, [], ◌∷◌, codes}
use Rattle.catalogue.specs.Catalogues.{Site, Table, Index}
use Rattle.star_model.specs.declared.catalogue.ColType.TheVariants as type
use Rattle.spelling.specs.Lexemes.{statements_in}
use Rattle.sb_text.specs.Tokens.{lexed}
use Rattle.sb_text.specs.Tokens.{lexed_after}
use Rattle.catalogue.specs.Catalogues.{catalogue_of}
use Rattle.worked_texts.proofs.texts.catalogue_employees.Goals as goal

pub returns : goal.returns
unfolding statements_in lexed lexed_after catalogue_of
returns c = record { statements = (Site (record { name = codes "hq"; cpu = 1; net = 1 }) ∷ Table (record { name = codes "emp"; site = codes "hq"; rows = 1000; pages = 100; file = codes "emp.csv"; columns = (record { name = codes "id"; kind = type.Int; width = 8; distinct = 1000 } ∷ record { name = codes "dno"; kind = type.Int; width = 8; distinct = 10 } ∷ record { name = codes "name"; kind = type.Text; width = 20; distinct = 1000 } ∷ []) }) ∷ Index (record { name = codes "emp_dno"; table = codes "emp"; columns = (codes "dno" ∷ codes "id" ∷ []); pages = 20 }) ∷ []); are = record { all_tokens = refl; are = refl }; columns = (tt, (tt, (tt, tt))); means = refl }
