-- Written by tools/worked_texts.
use Rattle.std.proofs.Common.{refl, [], ◌∷◌, Some, None, codes}
use Rattle.query_graph.specs.Queries.{OfColumn}
use Rattle.star_model.specs.declared.query.Cmp.TheVariants as cmp
use Rattle.spelling.specs.Lexemes.{statements_in}
use Rattle.sb_text.specs.Tokens.{lexed}
use Rattle.sb_text.specs.Tokens.{lexed_after}
use Rattle.query_graph.specs.Queries.{query_of}
use Rattle.star_model.specs.Selectivity.{weighed}
use Rattle.star_model.specs.Selectivity.{select_of}
use Rattle.worked_texts.proofs.texts.query_pairs.Goals as goal

pub returns : goal.returns
unfolding statements_in lexed lexed_after query_of weighed select_of
returns c = record { statement = record { select = (record { quantifier = codes "x"; column = codes "k" } ∷ record { quantifier = codes "y"; column = codes "k" } ∷ []); items = (record { table = codes "t"; name = Some (codes "x") } ∷ record { table = codes "t"; name = Some (codes "y") } ∷ []); comparisons = (record { left = record { quantifier = codes "x"; column = codes "k" }; cmp = cmp.Eq; right = OfColumn (record { quantifier = codes "y"; column = codes "k" }) } ∷ []); order = (record { quantifier = codes "x"; column = codes "k" } ∷ []); site = None }; are = record { all_tokens = refl; are = refl }; stands = record { some_columns = tt; some_items = tt; select = (refl, (refl, tt)); items = ((refl, refl), ((refl, refl), tt)); comparisons = ((refl, refl), tt); order = (refl, tt); site = tt }; means = refl }
