-- Written by tools/worked_texts.
use Rattle.std.proofs.Common.{refl, [], ◌∷◌, codes}
use Rattle.catalogue.specs.Catalogues.{Site, Table}
use Rattle.star_model.specs.declared.catalogue.ColType.TheVariants as type
use Rattle.spelling.specs.Lexemes.{statements_in}
use Rattle.sb_text.specs.Tokens.{lexed}
use Rattle.sb_text.specs.Tokens.{lexed_after}
use Rattle.catalogue.specs.Catalogues.{catalogue_of}
use Rattle.worked_texts.proofs.texts.catalogue_two_sites.Goals as goal

pub returns : goal.returns
unfolding statements_in lexed lexed_after catalogue_of
returns c = record { statements = (Site (record { name = codes "a"; cpu = 1; net = 1 }) ∷ Site (record { name = codes "b"; cpu = 5; net = 1 }) ∷ Table (record { name = codes "t"; site = codes "b"; rows = 100; pages = 1; file = codes "t.csv"; columns = (record { name = codes "k"; kind = type.Int; width = 8; distinct = 100 } ∷ []) }) ∷ []); are = record { all_tokens = refl; are = refl }; columns = (tt, (tt, (tt, tt))); means = refl }
