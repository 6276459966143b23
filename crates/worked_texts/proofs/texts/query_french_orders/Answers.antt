-- Written by tools/worked_texts.
use Rattle.std.proofs.Common.{refl, [], ◌∷◌, Some, codes}
use Rattle.query_graph.specs.Queries.{OfColumn, OfConstant, Whole, Quoted}
use Rattle.star_model.specs.declared.query.Cmp.TheVariants as cmp
use Rattle.spelling.specs.Lexemes.{statements_in}
use Rattle.sb_text.specs.Tokens.{lexed}
use Rattle.sb_text.specs.Tokens.{lexed_after}
use Rattle.query_graph.specs.Queries.{query_of}
use Rattle.star_model.specs.Selectivity.{weighed}
use Rattle.star_model.specs.Selectivity.{select_of}
use Rattle.worked_texts.proofs.texts.query_french_orders.Goals as goal

pub returns : goal.returns
unfolding statements_in lexed lexed_after query_of weighed select_of
returns c = record { statement = record { select = (record { quantifier = codes "c"; column = codes "c_name" } ∷ record { quantifier = codes "o"; column = codes "o_id" } ∷ record { quantifier = codes "p"; column = codes "p_name" } ∷ record { quantifier = codes "l"; column = codes "l_qty" } ∷ []); items = (record { table = codes "customer"; name = Some (codes "c") } ∷ record { table = codes "nation"; name = Some (codes "n") } ∷ record { table = codes "orders"; name = Some (codes "o") } ∷ record { table = codes "line"; name = Some (codes "l") } ∷ record { table = codes "part"; name = Some (codes "p") } ∷ []); comparisons = (record { left = record { quantifier = codes "c"; column = codes "c_nation" }; cmp = cmp.Eq; right = OfColumn (record { quantifier = codes "n"; column = codes "n_id" }) } ∷ record { left = record { quantifier = codes "n"; column = codes "n_name" }; cmp = cmp.Eq; right = OfConstant (Quoted (codes "FRANCE")) } ∷ record { left = record { quantifier = codes "o"; column = codes "o_cust" }; cmp = cmp.Eq; right = OfColumn (record { quantifier = codes "c"; column = codes "c_id" }) } ∷ record { left = record { quantifier = codes "o"; column = codes "o_date" }; cmp = cmp.Ge; right = OfConstant (Whole 19940101) } ∷ record { left = record { quantifier = codes "l"; column = codes "l_order" }; cmp = cmp.Eq; right = OfColumn (record { quantifier = codes "o"; column = codes "o_id" }) } ∷ record { left = record { quantifier = codes "l"; column = codes "l_part" }; cmp = cmp.Eq; right = OfColumn (record { quantifier = codes "p"; column = codes "p_id" }) } ∷ []); order = (record { quantifier = codes "o"; column = codes "o_id" } ∷ record { quantifier = codes "p"; column = codes "p_name" } ∷ []); site = Some (codes "hq") }; are = record { all_tokens = refl; are = refl }; stands = record { some_columns = tt; some_items = tt; select = (refl, (refl, (refl, (refl, tt)))); items = ((refl, refl), ((refl, refl), ((refl, refl), ((refl, refl), ((refl, refl), tt))))); comparisons = ((refl, refl), ((refl, tt), ((refl, refl), ((refl, tt), ((refl, refl), ((refl, refl), tt)))))); order = (refl, (refl, tt)); site = refl }; means = refl }
