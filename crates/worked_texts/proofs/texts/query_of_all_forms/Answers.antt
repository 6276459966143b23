-- Written by tools/worked_texts.
use Rattle.std.proofs.Common.{refl, [], ◌∷◌, Some, None, codes}
use Rattle.query_graph.specs.Queries.{OfColumn, OfConstant, Whole, Negative, Quoted}
use Rattle.star_model.specs.declared.query.Cmp.TheVariants as cmp
use Rattle.spelling.specs.Lexemes.{statements_in}
use Rattle.sb_text.specs.Tokens.{lexed}
use Rattle.sb_text.specs.Tokens.{lexed_after}
use Rattle.query_graph.specs.Queries.{query_of}
use Rattle.star_model.specs.Selectivity.{weighed}
use Rattle.star_model.specs.Selectivity.{select_of}
use Rattle.worked_texts.proofs.texts.query_of_all_forms.Goals as goal

pub returns : goal.returns
unfolding statements_in lexed lexed_after query_of weighed select_of
returns c = record { statement = record { select = (record { quantifier = codes "e"; column = codes "id" } ∷ record { quantifier = codes "emp"; column = codes "dno" } ∷ []); items = (record { table = codes "emp"; name = None } ∷ record { table = codes "emp"; name = Some (codes "e") } ∷ []); comparisons = (record { left = record { quantifier = codes "e"; column = codes "id" }; cmp = cmp.Ne; right = OfConstant (Whole 3) } ∷ record { left = record { quantifier = codes "e"; column = codes "id" }; cmp = cmp.Lt; right = OfColumn (record { quantifier = codes "emp"; column = codes "id" }) } ∷ record { left = record { quantifier = codes "emp"; column = codes "name" }; cmp = cmp.Eq; right = OfConstant (Quoted (codes "O'Hara")) } ∷ record { left = record { quantifier = codes "emp"; column = codes "id" }; cmp = cmp.Le; right = OfConstant (Whole 7) } ∷ record { left = record { quantifier = codes "e"; column = codes "dno" }; cmp = cmp.Gt; right = OfConstant (Negative 5) } ∷ record { left = record { quantifier = codes "e"; column = codes "dno" }; cmp = cmp.Ge; right = OfConstant (Whole 0) } ∷ []); order = (record { quantifier = codes "e"; column = codes "id" } ∷ record { quantifier = codes "e"; column = codes "dno" } ∷ []); site = Some (codes "hq") }; are = record { all_tokens = refl; are = refl }; stands = record { some_columns = tt; some_items = tt; select = (refl, (refl, tt)); items = ((refl, tt), ((refl, refl), tt)); comparisons = ((refl, tt), ((refl, refl), ((refl, tt), ((refl, tt), ((refl, tt), ((refl, tt), tt)))))); order = (refl, (refl, tt)); site = refl }; means = refl }
