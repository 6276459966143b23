-- Written by tools/worked_texts.
use Rattle.std.proofs.Common.{refl, [], ◌∷◌, None, codes}
use Rattle.spelling.specs.Lexemes.{statements_in}
use Rattle.sb_text.specs.Tokens.{lexed}
use Rattle.sb_text.specs.Tokens.{lexed_after}
use Rattle.query_graph.specs.Queries.{query_of}
use Rattle.star_model.specs.Selectivity.{weighed}
use Rattle.star_model.specs.Selectivity.{select_of}
use Rattle.worked_texts.proofs.texts.query_t.Goals as goal

pub returns : goal.returns
unfolding statements_in lexed lexed_after query_of weighed select_of
returns c = record { statement = record { select = (record { quantifier = codes "t"; column = codes "a" } ∷ []); items = (record { table = codes "t"; name = None } ∷ []); comparisons = []; order = []; site = None }; are = record { all_tokens = refl; are = refl }; stands = record { some_columns = tt; some_items = tt; select = (refl, tt); items = ((refl, tt), tt); comparisons = tt; order = tt; site = tt }; means = refl }
