-- Numbers that are drawn one after the other: those that are left complete the whole.
use Rattle.std.proofs.Common.{◌≡◌, ℕ, suc, ◌+◌, ◌-◌, ◌<◌, ◌≤◌, List, [], ◌∷◌, ◌++◌, sym, ap, ◌∙◌, append_assoc, append-nil, arith}
use Rattle.workload_gen.specs.Draws.{next_state, drawn, state_after, numbers_from}

pub record NumbersLeft (numbers : List ℕ) (left choices state : ℕ) (all : List ℕ) (last : ℕ) : Type 0 where
  pub drawn_are : numbers ++ numbers_from left choices state ≡ all
  pub state_is : state_after left state ≡ last

pub number_next : (numbers more : List ℕ) (count place choices x state after : ℕ) (all : List ℕ) (last : ℕ) → place < count
    → NumbersLeft numbers (count - place) choices state all last → x ≡ drawn choices state → after ≡ next_state state → more ≡ numbers ++ x ∷ []
    → NumbersLeft more (count - (place + 1)) choices after all last
number_next numbers more count place choices x state after all last below left x_is after_is more_is =
    let later = count - (place + 1) in
    let one : count - place ≡ suc later = omega arith in
    let drawn_is : more ≡ numbers ++ drawn choices state ∷ [] = more_is ∙ ap (λ y. numbers ++ y ∷ []) x_is in
    record {
      drawn_are =
          ap (λ l. l ++ numbers_from later choices after) drawn_is ∙ ap (λ s. (numbers ++ drawn choices state ∷ []) ++ numbers_from later choices s) after_is
          ∙ append_assoc numbers (drawn choices state ∷ []) (numbers_from later choices (next_state state)) ∙ ap (λ n. numbers ++ numbers_from n choices state) (sym one) ∙ left.drawn_are;
      state_is = ap (state_after later) after_is ∙ ap (λ n. state_after n state) (sym one) ∙ left.state_is;
    }

pub numbers_done : (numbers : List ℕ) (count place choices state : ℕ) (all : List ℕ) (last : ℕ) → count ≤ place → NumbersLeft numbers (count - place) choices state all last
    → (numbers ≡ all) × (state ≡ last)
numbers_done numbers count place choices state all last above left =
    let none : count - place ≡ 0 = omega arith in (
      sym (ap (λ n. numbers ++ numbers_from n choices state) none ∙ append-nil numbers) ∙ left.drawn_are,
      ap (λ n. state_after n state) (sym none) ∙ left.state_is,
    )
