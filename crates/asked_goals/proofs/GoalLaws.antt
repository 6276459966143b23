-- A goal asks for what its splits ask for, and one of one quantifier for nothing.
use Rattle.std.proofs.Common.{◌≡◌, ℕ, ◌<◌, ◌^◌, true, false, nat_eq, List, [], Option, Some, None, ap, sym, ◌∙◌}
use Rattle.std.specs.Prelude.{Contains, is_some, IsSome}
use Rattle.std.proofs.lemmas.Bool.{true≢false}
use Rattle.star_model.specs.Accepted.{IsAccepted, glues_in}
use Rattle.star_model.specs.AskedGoals.{Asks}
use Rattle.star_model.specs.Expected.{ForGoal, may_split, root_call}
use Rattle.star_model.specs.Sets.{size, splits}
use Rattle.star_model.specs.declared.plans.Goal.{Goal}
use Rattle.star_model.specs.declared.query.Query.{Query}
use Rattle.star_model.specs.declared.rules.PlanExpr.TheVariants as made
use Rattle.star_model.specs.declared.rules.ValueExpr.{ValueExpr}
use Rattle.star_model.specs.declared.rules.RuleFile.{RuleFile}
use Rattle.star_check.proofs.Laws.{one_leads_to_no_glue}
use Rattle.table_set_memo.specs.Memos.{GoalSet, plans_at, IsHeld}
use Rattle.exchange.specs.Asking.{AsksFrom}
use Rattle.exchange.proofs.Laws.{asks_parts, asks_goal, split_listed}
use Rattle.search_places.specs.Memos.{HoldsAsked, FirstMissing}

module _ (q : Query) (rules : RuleFile) where
  no_glue : (stream preds : ValueExpr) → glues_in (made.Glue stream preds) ≡ [] → ⊥
  unfolding glues_in
  no_glue stream preds none = cc

  -- a goal of one quantifier asks for none
  pub one_asks_nothing : (s j t k : ℕ) → IsAccepted rules → size s ≡ 1 → Asks q rules s j t k → ⊥
  one_asks_nothing s j t k accepted one asked =
      let a = (asks_goal q rules s j t k).0 asked in
      no_glue a.stream a.preds (one_leads_to_no_glue q rules accepted s j (made.Glue a.stream a.preds) a.bindings a.leads one)

  pub split_asks : (s j t k : ℕ) (p : ℕ × ℕ) → may_split s (Some p) ≡ true → AsksFrom q rules (root_call s j (Some p)) t k → Asks q rules s j t k
  split_asks s j t k p may asked = (asks_goal q rules s j t k).1 ((asks_parts q rules (ForGoal s j) t k).1 (Some p, may, asked))

  -- a goal of several asks for what the splits of the list ask for
  pub asks_split : (s j t k : ℕ) → s < 2 ^ 32 → nat_eq (size s) 1 ≡ false → Asks q rules s j t k → (p : ℕ × ℕ) × Contains (splits s) p × AsksFrom q rules (root_call s j (Some p)) t k
  asks_split s j t k fits several asked = of ((asks_parts q rules (ForGoal s j) t k).0 ((asks_goal q rules s j t k).0 asked))
    where
      of : ((split : Option (ℕ × ℕ)) × (may_split s split ≡ true) × AsksFrom q rules (root_call s j split) t k) → (p : ℕ × ℕ) × Contains (splits s) p × AsksFrom q rules (root_call s j (Some p)) t k
      of (None, may, asks) = absurd (true≢false (sym may ∙ several))
      of (Some p, may, asks) = (p, (split_listed s fits several p).0 may, asks)

  pub holds_of_one : (memo : List GoalSet) (g : Goal) → IsAccepted rules → size g.tables ≡ 1 → HoldsAsked q rules memo g
  unfolding HoldsAsked
  holds_of_one memo g accepted one = λ h asked. absurd (one_asks_nothing g.tables g.pushed h.tables h.pushed accepted one asked)

  pub holds_of_splits : (memo : List GoalSet) (g : Goal) → g.tables < 2 ^ 32 → nat_eq (size g.tables) 1 ≡ false
      → ((p : ℕ × ℕ) → Contains (splits g.tables) p → (h : Goal) → AsksFrom q rules (root_call g.tables g.pushed (Some p)) h.tables h.pushed → IsHeld memo h) → HoldsAsked q rules memo g
  unfolding HoldsAsked
  holds_of_splits memo g fits several held = λ h asked. (let (p, listed, asks) = asks_split g.tables g.pushed h.tables h.pushed fits several asked in held p listed h asks)

  -- what is missing in a split is asked for and isn't held
  pub missing_denies : (memo : List GoalSet) (g h : Goal) (p : ℕ × ℕ) → may_split g.tables (Some p) ≡ true → FirstMissing memo (AsksFrom q rules (root_call g.tables g.pushed (Some p))) (Some h)
      → HoldsAsked q rules memo g → ⊥
  unfolding HoldsAsked
  missing_denies memo g h p may m held =
      let there : IsSome (plans_at memo h) = held h (split_asks g.tables g.pushed h.tables h.pushed p may m.0) in
      true≢false (sym there ∙ ap is_some m.1)

-- ---- by the test whether one is missing

pub none_is_missing : (memo : List GoalSet) (P : ℕ → ℕ → Type 0) (r : Option Goal) → is_some r ≡ false → FirstMissing memo P r → FirstMissing memo P None
none_is_missing memo P None h m = m
none_is_missing memo P (Some g) h m = absurd (true≢false h)

pub one_is_missing : (memo : List GoalSet) (P : ℕ → ℕ → Type 0) (r : Option Goal) → is_some r ≡ true → FirstMissing memo P r → (g : Goal) × FirstMissing memo P (Some g)
one_is_missing memo P None h m = absurd (true≢false (sym h))
one_is_missing memo P (Some g) h m = (g, m)
