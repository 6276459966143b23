-- The limits of a statement as tests, in their order.
use Rattle.std.specs.Prelude.{ℕ, Bool, false, ◌||◌, nat_lt, nat_le, length, Option, Some, None, if◌then◌else◌}
use Rattle.std.specs.List.{list_any}
use Rattle.star_model.specs.Limits.{most_alternatives, most_name_bytes, most_nesting, most_nodes, most_parameters, most_ranges, most_stars}
use Rattle.star_model.specs.Numbers.{top}
use Rattle.star_model.specs.Monotone.{nodes}
use Rattle.star_model.specs.declared.formula.Formula.{Formula}
use Rattle.star_model.specs.declared.faults.LimitKind.{LimitKind}
use Rattle.star_model.specs.declared.faults.LimitKind.TheVariants as limit
use Rattle.star_model.specs.declared.rules.StarDef.{StarDef}
use Rattle.star_model.specs.declared.rules.Alternative.{Alternative}
use Rattle.star_model.specs.declared.rules.FormulaDef.{FormulaDef}
use Rattle.star_model.specs.declared.rules.SelectDef.{SelectDef}
use Rattle.spelling.specs.Lexemes.{Lexeme, Word, Number, Text, Symbol}
use Rattle.rule_grammar.specs.Rules.{Definition, OfVersion, OfSelect, OfFormula, OfStar}
use Rattle.rule_grammar.specs.RuleLimits.{RuleStatement}
use Rattle.star_model.specs.WellFormedRules.{nesting}

abbrev pub is_great : Lexeme → Bool
is_great (Number n) = nat_lt top n
is_great (Word bytes) = false
is_great (Text bytes) = false
is_great (Symbol bytes) = false

abbrev pub is_long : Lexeme → Bool
is_long (Word bytes) = nat_lt most_name_bytes (length bytes)
is_long (Number n) = false
is_long (Text bytes) = false
is_long (Symbol bytes) = false

abbrev pub has_many_ranges : Alternative → Bool
has_many_ranges a = nat_lt most_ranges (length a.ranges)

abbrev pub is_deep : Alternative → Bool
is_deep a = nat_lt most_nesting (nesting a.body)

-- the first limit that a STAR goes beyond, behind so many STARs
abbrev pub star_limit : ℕ → StarDef → Option LimitKind
star_limit stars s =
    if nat_lt most_parameters (length s.params) then Some limit.Params
    else if nat_lt most_alternatives (length s.alternatives) then Some limit.Alternatives
    else if list_any has_many_ranges s.alternatives then Some limit.ForAlls
    else if nat_le most_stars stars then Some limit.Stars
    else if list_any is_deep s.alternatives then Some limit.Depth
    else None

abbrev pub is_large : Formula → Bool
is_large f = nat_lt most_nodes (length (nodes f))

abbrev pub formula_limit : FormulaDef → Option LimitKind
formula_limit d = if is_large d.formula then Some limit.Formula else None

abbrev pub select_limit : SelectDef → Option LimitKind
select_limit d = if is_large d.num || is_large d.den then Some limit.Formula else None

abbrev pub definition_limit : ℕ → Definition → Option LimitKind
definition_limit stars OfVersion = None
definition_limit stars (OfSelect d) = select_limit d
definition_limit stars (OfFormula d) = formula_limit d
definition_limit stars (OfStar s) = star_limit stars s

-- the first limit that the statement goes beyond
abbrev pub limit_beyond : ℕ → RuleStatement → Option LimitKind
limit_beyond stars statement =
    if list_any is_great statement.lexemes then Some limit.Number
    else if list_any is_long statement.lexemes then Some limit.Name
    else definition_limit stars statement.defines
