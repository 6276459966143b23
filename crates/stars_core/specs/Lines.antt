-- The lines that say why a command put nothing out, and the status of each.
use Rattle.std.specs.Prelude.{ℕ, List, [], ◌∷◌, ◌++◌, Option, Some, None, codes, string_bytes}
use Rattle.std.specs.Fmt.{decimal}
use Rattle.star_model.specs.declared.faults.LimitKind.{LimitKind}
use Rattle.star_model.specs.declared.faults.LimitKind.TheVariants as limit
use Rattle.star_model.specs.declared.faults.Root.{Root}
use Rattle.star_model.specs.declared.faults.Root.TheVariants as root
use Rattle.star_model.specs.declared.faults.RuleFault.{RuleFault}
use Rattle.star_model.specs.declared.faults.RuleFault.TheVariants as rules
use Rattle.star_model.specs.declared.rules.Flavour.{Flavour}
use Rattle.star_model.specs.declared.rules.Which.{Which}
use Rattle.star_model.specs.FlavourWords.{flavour_word, which_word}
use Rattle.catalogue.specs.declared.fault.CatFault.{CatFault}
use Rattle.catalogue.specs.declared.fault.CatFault.TheVariants as catalogues
use Rattle.query_graph.specs.declared.fault.QueryFault.{QueryFault}
use Rattle.query_graph.specs.declared.fault.QueryFault.TheVariants as queries
use Rattle.derivation_reading.specs.declared.fault.DerivFault.{DerivFault}
use Rattle.derivation_reading.specs.declared.fault.DerivFault.TheVariants as derivations
use Rattle.stars_core.specs.declared.refusal.TextKind.{TextKind}
use Rattle.stars_core.specs.declared.refusal.TextKind.TheVariants.{Rules, Catalogue, Query, Derivation}
use Rattle.stars_core.specs.declared.refusal.Refusal.{Refusal}
use Rattle.stars_core.specs.declared.refusal.Refusal.TheVariants as refusals
use Rattle.stars_core.specs.declared.status.Status.{Status}
use Rattle.stars_core.specs.declared.status.Status.TheVariants.{Done, NoPlan, Usage, RulesRefused, CatalogueRefused, QueryRefused, TableRefused, ReadFault, WriteFault, Memory, NotDerived, DerivationRefused, SessionRefused, CertificateRefused}

abbrev pub prefix : TextKind → List ℕ
prefix Rules = codes "rules: "
prefix Catalogue = codes "catalogue: "
prefix Query = codes "query: "
prefix Derivation = codes "derivation: "

abbrev pub too_long_line : TextKind → List ℕ
too_long_line kind = prefix kind ++ codes "longer than 1048576 bytes" ++ 10 ∷ []

abbrev pub lexical_line : TextKind → ℕ → List ℕ
lexical_line kind offset = prefix kind ++ codes "no token at byte " ++ decimal offset ++ 10 ∷ []

-- what is said of a statement, by its number from 1
abbrev pub statement_line : TextKind → ℕ → List ℕ → List ℕ
statement_line kind statement said = prefix kind ++ codes "statement " ++ decimal statement ++ codes " " ++ said ++ 10 ∷ []

abbrev pub too_deep_line : TextKind → ℕ → List ℕ
too_deep_line kind statement = statement_line kind statement (codes "is too deep")

abbrev pub syntax_line : TextKind → ℕ → List ℕ
syntax_line kind statement = statement_line kind statement (codes "is not understood")

abbrev pub unknown_line : TextKind → ℕ → List ℕ
unknown_line kind statement = prefix kind ++ codes "unknown name in statement " ++ decimal statement ++ 10 ∷ []

abbrev pub twice_line : TextKind → ℕ → List ℕ
twice_line kind statement = prefix kind ++ codes "name defined twice in statement " ++ decimal statement ++ 10 ∷ []

abbrev pub limit_word : LimitKind → List ℕ
limit_word limit.Number = codes "Number"
limit_word limit.Name = codes "Name"
limit_word limit.File = codes "File"
limit_word limit.Params = codes "Params"
limit_word limit.Alternatives = codes "Alternatives"
limit_word limit.ForAlls = codes "ForAlls"
limit_word limit.Stars = codes "Stars"
limit_word limit.Depth = codes "Depth"
limit_word limit.Formula = codes "Formula"
limit_word limit.Sites = codes "Sites"
limit_word limit.Tables = codes "Tables"
limit_word limit.Columns = codes "Columns"
limit_word limit.Indexes = codes "Indexes"
limit_word limit.IndexColumns = codes "IndexColumns"
limit_word limit.Quantifiers = codes "Quantifiers"
limit_word limit.Predicates = codes "Predicates"
limit_word limit.Select = codes "Select"
limit_word limit.OrderBy = codes "OrderBy"

abbrev pub limit_line : TextKind → ℕ → LimitKind → List ℕ
limit_line kind statement what = prefix kind ++ codes "limit " ++ limit_word what ++ codes " in statement " ++ decimal statement ++ 10 ∷ []

-- by the number of the predicate, from 1
abbrev pub clash_line : ℕ → List ℕ
clash_line predicate = prefix Query ++ codes "predicate " ++ decimal predicate ++ codes " compares two types" ++ 10 ∷ []

-- ---- rule files alone

abbrev pub arity_line : ℕ → List ℕ
arity_line statement = prefix Rules ++ codes "wrong number of arguments in statement " ++ decimal statement ++ 10 ∷ []

abbrev pub kind_line : ℕ → List ℕ
kind_line statement = prefix Rules ++ codes "wrong kind in statement " ++ decimal statement ++ 10 ∷ []

abbrev pub cycle_line : ℕ → List ℕ
cycle_line statement = prefix Rules ++ codes "cycle through statement " ++ decimal statement ++ 10 ∷ []

abbrev pub glue_line : ℕ → List ℕ
glue_line statement = prefix Rules ++ codes "Glue below AccessRoot in statement " ++ decimal statement ++ 10 ∷ []

abbrev pub root_word : Root → List ℕ
root_word root.AccessRoot = codes "AccessRoot"
root_word root.JoinRoot = codes "JoinRoot"

abbrev pub no_root_line : Root → List ℕ
no_root_line name = prefix Rules ++ codes "no star " ++ root_word name ++ 10 ∷ []

abbrev pub no_formula_line : Flavour → List ℕ
no_formula_line flavour = prefix Rules ++ codes "no formula for " ++ flavour_word flavour ++ 10 ∷ []

-- by the number of the formula's node in preorder, from 1
abbrev pub not_monotone_line : Flavour → Which → ℕ → List ℕ
not_monotone_line flavour which node =
    prefix Rules ++ which_word which ++ codes " of " ++ flavour_word flavour ++ codes " is not monotone at node " ++ decimal node ++ 10 ∷ []

abbrev pub too_tall_line : ℕ → ℕ → List ℕ
too_tall_line statement height = statement_line Rules statement (codes "has height " ++ decimal height)

abbrev pub too_wide_line : ℕ → ℕ → List ℕ
too_wide_line statement weight = statement_line Rules statement (codes "has weight " ++ decimal weight)

-- The line of each fault; want of memory is none of a text.
abbrev pub rules_line : RuleFault → Option (List ℕ)
rules_line (rules.Lexical offset) = Some (lexical_line Rules offset)
rules_line (rules.TooDeep statement) = Some (too_deep_line Rules statement)
rules_line (rules.Syntax statement) = Some (syntax_line Rules statement)
rules_line (rules.Limit statement what) = Some (limit_line Rules statement what)
rules_line (rules.Unknown statement) = Some (unknown_line Rules statement)
rules_line (rules.Twice statement) = Some (twice_line Rules statement)
rules_line (rules.Arity statement) = Some (arity_line statement)
rules_line (rules.Kind statement) = Some (kind_line statement)
rules_line (rules.Cycle statement) = Some (cycle_line statement)
rules_line (rules.GlueInAccess statement) = Some (glue_line statement)
rules_line (rules.NoRoot name) = Some (no_root_line name)
rules_line (rules.NoFormula flavour) = Some (no_formula_line flavour)
rules_line (rules.NotMonotone flavour which node) = Some (not_monotone_line flavour which node)
rules_line (rules.TooTall statement height) = Some (too_tall_line statement height)
rules_line (rules.TooWide statement weight) = Some (too_wide_line statement weight)
rules_line rules.Memory = None

abbrev pub catalogue_line : CatFault → Option (List ℕ)
catalogue_line (catalogues.Lexical offset) = Some (lexical_line Catalogue offset)
catalogue_line (catalogues.TooDeep statement) = Some (too_deep_line Catalogue statement)
catalogue_line (catalogues.Syntax statement) = Some (syntax_line Catalogue statement)
catalogue_line (catalogues.Unknown statement) = Some (unknown_line Catalogue statement)
catalogue_line (catalogues.Twice statement) = Some (twice_line Catalogue statement)
catalogue_line (catalogues.Limit statement what) = Some (limit_line Catalogue statement what)
catalogue_line catalogues.Memory = None

abbrev pub query_line : QueryFault → Option (List ℕ)
query_line (queries.Lexical offset) = Some (lexical_line Query offset)
query_line (queries.TooDeep statement) = Some (too_deep_line Query statement)
query_line (queries.Syntax statement) = Some (syntax_line Query statement)
query_line (queries.Unknown statement) = Some (unknown_line Query statement)
query_line (queries.Twice statement) = Some (twice_line Query statement)
query_line (queries.Limit statement what) = Some (limit_line Query statement what)
query_line (queries.TypeClash predicate) = Some (clash_line predicate)
query_line queries.Memory = None

-- ---- derivations alone

-- by the number of the node in preorder, from 1
abbrev pub far_down_line : ℕ → List ℕ
far_down_line node = prefix Derivation ++ codes "node " ++ decimal node ++ codes " is too far down" ++ 10 ∷ []

abbrev pub not_derived_line : ℕ → List ℕ
not_derived_line node = prefix Derivation ++ codes "not derived at node " ++ decimal node ++ 10 ∷ []

abbrev pub derivation_line : DerivFault → Option (List ℕ)
derivation_line (derivations.Lexical offset) = Some (lexical_line Derivation offset)
derivation_line (derivations.TooDeep statement) = Some (too_deep_line Derivation statement)
derivation_line (derivations.Syntax statement) = Some (syntax_line Derivation statement)
derivation_line (derivations.TooTall node) = Some (far_down_line node)
derivation_line derivations.Memory = None

abbrev pub usage_line : List ℕ
usage_line = codes "usage: stars COMMAND FILE..." ++ 10 ∷ []

abbrev pub cannot_write : List ℕ
cannot_write = codes "cannot write" ++ 10 ∷ []

abbrev pub out_of_memory : List ℕ
out_of_memory = codes "out of memory" ++ 10 ∷ []

-- the number that the program ends with
abbrev pub code_of : Status → ℕ
code_of Done = 0
code_of NoPlan = 1
code_of Usage = 2
code_of RulesRefused = 3
code_of CatalogueRefused = 4
code_of QueryRefused = 5
code_of TableRefused = 6
code_of ReadFault = 7
code_of WriteFault = 8
code_of Memory = 9
code_of NotDerived = 10
code_of DerivationRefused = 11
code_of SessionRefused = 12
code_of CertificateRefused = 13

abbrev pub refused_status : TextKind → Status
refused_status Rules = RulesRefused
refused_status Catalogue = CatalogueRefused
refused_status Query = QueryRefused
refused_status Derivation = DerivationRefused

abbrev pub status_of : Refusal → Status
status_of refusals.Usage = Usage
status_of (refusals.Unread line) = ReadFault
status_of (refusals.Refused kind line) = refused_status kind
status_of (refusals.Table line) = TableRefused
status_of (refusals.NotDerived line) = NotDerived
status_of refusals.Memory = Memory

abbrev pub line_of : Refusal → List ℕ
line_of refusals.Usage = usage_line
line_of (refusals.Unread line) = string_bytes line
line_of (refusals.Refused kind line) = string_bytes line
line_of (refusals.Table line) = string_bytes line
line_of (refusals.NotDerived line) = string_bytes line
line_of refusals.Memory = out_of_memory
