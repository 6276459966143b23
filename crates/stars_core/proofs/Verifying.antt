-- What a derivation is answered.
use Rattle.std.proofs.Common.{◌≡◌, ◌<◌, ◌^◌, ℕ, List, [], ◌∷◌, Result, Ok, Err, refl, ap, sym, ◌∙◌, arith, string_bytes}
use Rattle.sb_outside.specs.Shelf.{ShelfState}
use Rattle.star_model.specs.Expected.{ForQuery}
use Rattle.star_model.specs.Judging.{Vector, FirstInvalid, invalid_number, judge_root, node_count}
use Rattle.star_model.specs.declared.rules.RuleFile.{RuleFile}
use Rattle.star_model.specs.declared.query.Query.{Query as QueryTree}
use Rattle.star_model.specs.declared.derivations.Deriv.{Deriv}
use Rattle.star_model.specs.declared.plans.Props.{Props}
use Rattle.star_model.proofs.Laws.{judges_root, judges_first}
use Rattle.derivation_reading.specs.Derivations.{SpellsDerivation}
use Rattle.derivation_reading.proofs.Laws.{few_nodes}
use Rattle.stars_core.specs.declared.answer.Answer.{Answer}
use Rattle.stars_core.specs.declared.command.Command.TheVariants.{Verify}
use Rattle.stars_core.specs.declared.refusal.Refusal.{Refusal}
use Rattle.stars_core.specs.declared.refusal.Refusal.TheVariants.{Usage, Unread, Refused, Table, NotDerived, Memory}
use Rattle.stars_core.specs.declared.status.Ending.{Ending}
use Rattle.stars_core.specs.declared.status.Ending.TheVariants.{Done}
use Rattle.stars_core.specs.CommandLine.{four_requests}
use Rattle.stars_core.specs.Lines.{not_derived_line}
use Rattle.stars_core.specs.Judging.{DerivationPasses}
use Rattle.stars_core.specs.Faults.{PassAll}
use Rattle.stars_core.specs.Saying.{SaysCase, four}
use Rattle.stars_core.specs.Judged.{AnswersOf}
use Rattle.stars_core.specs.declared.pieces.Pieces.{Pieces}
use Rattle.stars_core.specs.Pieces.{pieces_of}
use Rattle.stars_core.specs.Shelves.{CameAlong}
use Rattle.stars_core.specs.Composing.{Ran}
use Rattle.stars_core.specs.Verified.{Verified, VerifiedText, IsNotDerived, Denies, derived_line}

-- a derivation that is read has few enough nodes
pub small : (d : List ℕ) (tree : Deriv) → DerivationPasses d tree → node_count tree < 2 ^ 32
small d tree pass = omega (arith, pass.size, few_nodes d tree pass.read.spells)

pub is_verified : (rules : RuleFile) (query : QueryTree) (d : Deriv) (v : Props) (ending : Ending) (text : List ℕ) → judge_root query rules d ≡ Vector v
    → (ending ≡ Done) × (text ≡ derived_line v) → VerifiedText rules query d ending text
is_verified rules query d v ending text judged told = (told.0, v, (judges_root query rules d v).0 judged, told.1)

not_derived : (rules : RuleFile) (query : QueryTree) (d : Deriv) (n : ℕ) (line : List ℕ) → judge_root query rules d ≡ FirstInvalid n → line ≡ not_derived_line n
    → IsNotDerived rules query d line
not_derived rules query d n line judged told = record {
  no_root = λ v root. let e : FirstInvalid n ≡ Vector v = sym judged ∙ (judges_root query rules d v).1 root in cc;
  node = n;
  first = sym (judges_first query rules d ForQuery 1) ∙ ap invalid_number judged;
  told = told;
}

pub is_denied : (rules : RuleFile) (query : QueryTree) (d : Deriv) (n : ℕ) (refusal : Refusal) → judge_root query rules d ≡ FirstInvalid n
    → Denies (λ line. line ≡ not_derived_line n) refusal → Verified rules query d (Err refusal)
is_denied rules query d n (NotDerived line) judged told = not_derived rules query d n (string_bytes line) judged told
is_denied rules query d n Memory judged told = tt
is_denied rules query d n Usage judged told = told
is_denied rules query d n (Unread line) judged told = told
is_denied rules query d n (Refused kind line) judged told = told
is_denied rules query d n (Table line) judged told = told

module _ (r c q d : List ℕ) (rules : RuleFile) (query : QueryTree) (tree : Deriv) (says : SaysCase r c q rules query) (spells : SpellsDerivation d tree) where
  -- of texts that were read
  module _ (before now : ShelfState) (rs cs qs ds : List ℕ) (along : CameAlong before now (four_requests rs cs qs ds) (four r c q d)) where
    pub verified_ran : (answer : Answer) (pieces : Pieces) → pieces.ending ≡ answer.ending → pieces_of pieces ≡ answer.text.items ∷ []
        → Verified rules query tree (Ok answer) → Ran Verify before now (four_requests rs cs qs ds) (Ok pieces)
    verified_ran answer pieces ends are v = (
      along.quiet,
      (
        four r c q d,
        along.held,
        along.accepted,
        rw ends (record {
          text = answer.text.items;
          answer = record { saying = (rules, query, tree); says = (says, spells); answer = v };
          more = [];
          further = refl;
          are = are;
        }),
      ),
    )

    pub denied_ran : (refusal : Refusal) → Verified rules query tree (Err refusal) → Ran Verify before now (four_requests rs cs qs ds) (Err refusal)
    denied_ran (NotDerived line) v = (along.quiet, four r c q d, along.held, along.accepted, record { saying = (rules, query, tree); says = (says, spells); denied = v })
    denied_ran Memory v = tt
    denied_ran Usage v = absurd v
    denied_ran (Unread line) v = absurd v
    denied_ran (Refused kind line) v = absurd v
    denied_ran (Table line) v = absurd v

  -- of texts that were given
  pub verified_texts : PassAll [] (four r c q d) → (result : Result Answer Refusal) → Verified rules query tree result → AnswersOf Verify (four r c q d) result
  verified_texts all (Ok answer) v = (all, record { saying = (rules, query, tree); says = (says, spells); answer = v })
  verified_texts all (Err (NotDerived line)) v = (all, record { saying = (rules, query, tree); says = (says, spells); denied = v })
  verified_texts all (Err Memory) v = tt
  verified_texts all (Err Usage) v = absurd v
  verified_texts all (Err (Unread line)) v = absurd v
  verified_texts all (Err (Refused kind line)) v = absurd v
  verified_texts all (Err (Table line)) v = absurd v
