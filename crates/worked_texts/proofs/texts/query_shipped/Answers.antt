-- Written by tools/worked_texts.
use Rattle.std.proofs.Common.{refl, [], ◌∷◌, Some, None, codes}
use Rattle.spelling.specs.Lexemes.{statements_in}
use Rattle.sb_text.specs.Tokens.{lexed}
use Rattle.sb_text.specs.Tokens.{lexed_after}
use Rattle.query_graph.specs.Queries.{query_of}
use Rattle.star_model.specs.Selectivity.{weighed}
use Rattle.star_model.specs.Selectivity.{select_of}
use Rattle.worked_texts.proofs.texts.query_shipped.Goals as goal

pub returns : goal.returns
unfolding statements_in lexed lexed_after query_of weighed select_of
returns c = record { statement = record { select = (record { quantifier = codes "t"; column = codes "k" } ∷ []); items = (record { table = codes "t"; name = None } ∷ []); comparisons = []; order = (record { quantifier = codes "t"; column = codes "k" } ∷ []); site = Some (codes "a") }; are = record { all_tokens = refl; are = refl }; stands = record { some_columns = tt; some_items = tt; select = (refl, tt); items = ((refl, tt), tt); comparisons = tt; order = (refl, tt); site = refl }; means = refl }
