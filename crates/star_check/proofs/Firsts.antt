-- The first statement with a case, found among more and more of the statements.
use Rattle.std.proofs.Common.{◌≡◌, ℕ, ◌+◌, ◌<◌, min, Bool, true, false, if◌then◌else◌, List, [], ◌∷◌, ◌++◌, map, length, take, get_or, refl, ap, sym, ◌∙◌}
use Rattle.std.specs.Prelude.{Option, Some, filter}
use Rattle.std.specs.List.{reduce}
use Rattle.std.proofs.lemmas.List.{take_more}
use Rattle.std.proofs.lemmas.List.Sums.{fold-append}
use Rattle.std.proofs.lemmas.List.Elements.{filter-append}
use Rattle.star_model.specs.declared.rules.StarDef.{StarDef}
use Rattle.star_check.specs.FirstStatements.{first_star, earlier, with_statement}

least-push : {A : Type 0} (key : A → ℕ) (test : A → Bool) (xs : List A) (x : A)
    → reduce min (map key (filter test (xs ++ x ∷ []))) ≡ with_statement (reduce min (map key (filter test xs))) (test x) (key x)
least-push {A = A} key test xs x = ap (λ ys. reduce min (map key ys)) (filter-append test xs (x ∷ [])) ∙ step (test x) (filter test xs)
  where
    folded : (ks : List ℕ) (k : ℕ) → reduce min (ks ++ k ∷ []) ≡ Some (earlier (reduce min ks) k)
    folded [] k = refl
    folded (j ∷ ks) k = ap Some (fold-append min j ks (k ∷ []))

    pushed : (ys : List A) → map key (ys ++ x ∷ []) ≡ map key ys ++ key x ∷ []
    pushed [] = refl
    pushed (y ∷ ys) = ap (λ ks. key y ∷ ks) (pushed ys)

    none : (ys : List A) → ys ++ [] ≡ ys
    none [] = refl
    none (y ∷ ys) = ap (λ zs. y ∷ zs) (none ys)

    step : (b : Bool) (ys : List A) → reduce min (map key (ys ++ (if b then x ∷ [] else []))) ≡ with_statement (reduce min (map key ys)) b (key x)
    step true ys = ap (reduce min) (pushed ys) ∙ folded (map key ys) (key x)
    step false ys = ap (λ zs. reduce min (map key zs)) (none ys)

first_star_more : (test : StarDef → Bool) (stars : List StarDef) (i : ℕ) (s : StarDef) → i < length stars → s ≡ get_or stars i s
    → first_star test (take (i + 1) stars) ≡ with_statement (first_star test (take i stars)) (test s) s.statement
first_star_more test stars i s below is =
    ap (first_star test) (take_more stars i s below ∙ ap (λ x. take i stars ++ x ∷ []) (sym is)) ∙ least-push (λ t. t.statement) test (take i stars) s

-- a turn of the loop over the STARs
pub first_star_turn : (test : StarDef → Bool) (stars : List StarDef) (i : ℕ) (s : StarDef) (first next : Option ℕ) (counts : Bool)
    → i < length stars → s ≡ get_or stars i s → counts ≡ test s → first ≡ first_star test (take i stars) → next ≡ with_statement first counts s.statement
    → next ≡ first_star test (take (i + 1) stars)
first_star_turn test stars i s first next counts below is counted before after =
    after ∙ (λ j. with_statement (before j) (counted j) s.statement) ∙ sym (first_star_more test stars i s below is)
