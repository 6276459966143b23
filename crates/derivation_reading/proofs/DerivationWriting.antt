-- The canonical text of a derivation spells it.
use Rattle.std.proofs.Common.{ℕ, ◌+◌, ◌<◌, List, [], ◌∷◌, ◌++◌, map, Option, Some, None, codes, refl, arith}
use Rattle.star_model.specs.Sets.{members}
use Rattle.star_model.specs.declared.plans.GlueOp.{GlueOp}
use Rattle.star_model.specs.declared.plans.GlueOp.TheVariants as glue
use Rattle.star_model.specs.declared.rules.Flavour.{Flavour}
use Rattle.star_model.specs.declared.rules.Flavour.TheVariants as flavour
use Rattle.star_model.specs.declared.derivations.Deriv.{Deriv}
use Rattle.spelling.specs.Lexemes.{Word, Number, right_brace, comma, joined_by}
use Rattle.star_model.specs.Every.{Every}
use Rattle.spelling.specs.Layout.{IsLexeme, commented}
use Rattle.star_model.specs.FlavourWords.{flavour_word}
use Rattle.derivation_reading.specs.Derivations.{Step, Glue, Goal, Reference, Operator, glue_word, set_lexemes, split_lexemes, statement_of, IsCounted, IsStep, steps, statements_of, canonical, IsWritable, NamesWord, SpellsDerivation}
use Rattle.spelling.specs.FormedLexemes.{Formed, given_word, given_symbol, a_comma, both, formed_series, map_every}
use Rattle.spelling.specs.SpelledSeries.{anything}
use Rattle.spelling.proofs.Laws.{statements_of_layout, layout_again, layout_behind_comment}
use Rattle.star_model.proofs.Laws.{members_below}
use Rattle.std.specs.List.{AllPass}
use Rattle.sb_text.specs.Front.{in_comment}

a_glue_word : (o : GlueOp) → IsLexeme (Word (glue_word o))
a_glue_word glue.Sort = given_word (codes "sort") refl
a_glue_word glue.Ship = given_word (codes "ship") refl
a_glue_word glue.Store = given_word (codes "store") refl

pub a_flavour : (f : Flavour) → IsLexeme (Word (flavour_word f))
a_flavour flavour.AccessHeap = given_word (codes "ACCESS_HEAP") refl
a_flavour flavour.AccessIndex = given_word (codes "ACCESS_INDEX") refl
a_flavour flavour.Get = given_word (codes "GET") refl
a_flavour flavour.Filter = given_word (codes "FILTER") refl
a_flavour flavour.Sort = given_word (codes "SORT") refl
a_flavour flavour.Store = given_word (codes "STORE") refl
a_flavour flavour.Ship = given_word (codes "SHIP") refl
a_flavour flavour.Probe = given_word (codes "PROBE") refl
a_flavour flavour.JoinNl = given_word (codes "JOIN_NL") refl
a_flavour flavour.JoinMerge = given_word (codes "JOIN_MERGE") refl
a_flavour flavour.JoinHash = given_word (codes "JOIN_HASH") refl
a_flavour flavour.Intersect = given_word (codes "INTERSECT") refl

-- ---- sets

formed_set : (s : ℕ) → Formed (set_lexemes s)
formed_set s = (
  given_symbol (codes "{") refl refl,
  both (joined_by comma (map (λ n. Number (n + 1) ∷ []) (members s))) (right_brace ∷ [])
      (formed_series (λ n. Number (n + 1) ∷ []) (λ m. m < 32) comma a_comma (λ n low. (omega arith, tt)) (members s) (members_below s)) (given_symbol (codes "}") refl refl, tt),
)

formed_split : (split : Option (ℕ × ℕ)) → Formed (split_lexemes split)
formed_split None = tt
formed_split (Some parts) = (given_word (codes "split") refl, both (set_lexemes parts.0) (set_lexemes parts.1) (formed_set parts.0) (formed_set parts.1))

formed_step : (x : Step) → IsStep x → NamesWord x → Formed (statement_of x)
formed_step (Glue chain) h w = (given_word (codes "glue") refl, map_every (λ o. Word (glue_word o)) IsLexeme (λ _. Unit {0}) (λ o _. a_glue_word o) chain (anything chain))
formed_step (Goal goal split) h w = (
  given_word (codes "goal") refl,
  both (set_lexemes goal.tables) (Word (codes "pushed") ∷ (set_lexemes goal.pushed ++ split_lexemes split)) (formed_set goal.tables)
      (given_word (codes "pushed") refl, both (set_lexemes goal.pushed) (split_lexemes split) (formed_set goal.pushed) (formed_split split)),
)
formed_step (Reference star alternative values) h w =
    (given_word (codes "ref") refl, (w, (omega (arith, h.0.1), map_every Number IsLexeme IsCounted (λ n c. omega (arith, c.1)) values h.2)))
formed_step (Operator f) h w = (a_flavour f, tt)

pub formed_steps : (xs : List Step) → Every IsStep xs → Every NamesWord xs → Every Formed (map statement_of xs)
formed_steps [] h w = tt
formed_steps (x ∷ xs) h w = (formed_step x h.0 w.0, formed_steps xs h.1 w.1)

-- the canonical text of a derivation that can be written spells it
pub written_derivation : (tree : Deriv) → IsWritable tree → Every NamesWord (steps tree) → SpellsDerivation (canonical tree) tree
written_derivation tree h w = record { statements = statements_of_layout (statements_of tree) (formed_steps (steps tree) h.each w); writable = h }

pub derivation_again : (text : List ℕ) (tree : Deriv) → SpellsDerivation text tree → SpellsDerivation (canonical tree) tree
derivation_again text tree p = record { statements = layout_again text (statements_of tree) p.statements; writable = p.writable }

pub commented_derivation : (line : List ℕ) (tree : Deriv) → AllPass in_comment line → IsWritable tree → Every NamesWord (steps tree) → SpellsDerivation (commented line (canonical tree)) tree
commented_derivation line tree none h w = record { statements = layout_behind_comment line (statements_of tree) none (formed_steps (steps tree) h.each w); writable = h }
