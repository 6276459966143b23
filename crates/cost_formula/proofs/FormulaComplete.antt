-- What is spelled is read.
use Rattle.std.proofs.Common.{◌≡◌, ℕ, ◌+◌, ◌-◌, ◌<◌, ◌≤◌, List, [], ◌∷◌, ◌++◌, length, Option, Some, None, refl, sym, ap, ◌∙◌, subst, arith, append_assoc, append-nil, length-append}
use Rattle.std.proofs.lemmas.Option.{some_pair_parts}
use Rattle.star_model.specs.declared.formula.Formula.{Formula}
use Rattle.star_model.specs.declared.formula.Formula.TheVariants as f
use Rattle.star_model.specs.declared.formula.Var.{Var}
use Rattle.star_model.specs.FormulaCases.{Min, Max, If}
use Rattle.star_model.specs.declared.formula.Test.{Test}
use Rattle.cost_formula.specs.declared.formula_word.FormulaWord.{FormulaWord}
use Rattle.cost_formula.specs.declared.formula_word.FormulaWord.TheVariants as w
use Rattle.cost_formula.specs.FormulaGrammar as g
use Rattle.cost_formula.specs.FormulaGrammar.{Rank, Factor, Term, Sum, Whole, Spells}
use Rattle.cost_formula.specs.declared.formula_word.Sign.{Sign}
use Rattle.cost_formula.specs.declared.formula_word.Sign.TheVariants as s
use Rattle.cost_formula.specs.FormulaReading.{Reader, goes_on, joined, sum_sign_of, product_sign_of, factor_at, bracketed_at, pair_at, term_at, sum_at, comparison_at, branches_at, conditional_at, whole_by, whole_at}
use Rattle.cost_formula.proofs.FormulaTurns.{rests, more}
use Rattle.cost_formula.proofs.FormulaDepth.{at_some}

abbrev pub NoProduct : List FormulaWord → Type 0
NoProduct rest = product_sign_of rest ≡ (None, rest)

abbrev pub NoSum : List FormulaWord → Type 0
NoSum rest = sum_sign_of rest ≡ (None, rest)

-- a loop over operands stands at this operand and these words, with turns enough for them
pub record Stands (found : Option (Formula × List FormulaWord)) (sign : List FormulaWord → Option Sign × List FormulaWord) (operand : Reader Formula) (x : Formula) (rest : List FormulaWord) : Type 0 where
  pub turns : ℕ
  pub enough : length rest ≤ turns
  pub is : found ≡ goes_on sign operand turns x rest

-- how the words are read before any others
abbrev pub Read : Rank → List FormulaWord → Formula → Type 0
Read Factor ws x = (n : ℕ) (rest : List FormulaWord) → length ws ≤ n → factor_at (whole_at n) (ws ++ rest) ≡ Some (x, rest)
Read Term ws x = (n : ℕ) (rest : List FormulaWord) → length ws ≤ n → Stands (term_at (whole_at n) (ws ++ rest)) product_sign_of (factor_at (whole_at n)) x rest
Read Sum ws x = (n : ℕ) (rest : List FormulaWord) → length ws ≤ n → NoProduct rest → Stands (sum_at (whole_at n) (ws ++ rest)) sum_sign_of (term_at (whole_at n)) x rest
Read Whole ws x = (n : ℕ) (rest : List FormulaWord) → length ws < n → NoProduct rest → NoSum rest → whole_at n (ws ++ rest) ≡ Some (x, rest)

ended : {found : Option (Formula × List FormulaWord)} {sign : List FormulaWord → Option Sign × List FormulaWord} {operand : Reader Formula} {x : Formula} {rest : List FormulaWord} → Stands found sign operand x rest → sign rest ≡ (None, rest) → found ≡ Some (x, rest)
ended {found} {sign} {operand} {x} {rest} st none = st.is ∙ rests sign operand st.turns x rest none

-- one more operand
went : {found : Option (Formula × List FormulaWord)} {sign : List FormulaWord → Option Sign × List FormulaWord} {operand : Reader Formula} {x : Formula} {ws : List FormulaWord} (s : Sign) (y : Formula) (after rest : List FormulaWord) → Stands found sign operand x ws → sign ws ≡ (Some s, after) → operand after ≡ Some (y, rest) → length rest < length ws → Stands found sign operand (joined s x y) rest
went {found} {sign} {operand} {x} {ws} s y after rest st some good less = record {
  turns = st.turns - 1;
  enough = omega (arith, st.enough);
  is = st.is ∙ more sign operand st.turns x y ws after rest s (omega (arith, st.enough)) some good;
}

module _ (inner : Reader Formula) where
  begun : (ws rest : List FormulaWord) (x : Formula) → factor_at inner ws ≡ Some (x, rest) → Stands (term_at inner ws) product_sign_of (factor_at inner) x rest
  unfolding term_at
  begun ws rest x e = record { turns = length rest; enough = omega arith; is = rw e refl }

  sum_begun : (ws rest : List FormulaWord) (x : Formula) → term_at inner ws ≡ Some (x, rest) → Stands (sum_at inner ws) sum_sign_of (term_at inner) x rest
  unfolding sum_at
  sum_begun ws rest x e = record { turns = length rest; enough = omega arith; is = rw e refl }

  no_if : (ws : List FormulaWord) → sum_at inner (w.If ∷ ws) ≡ None
  unfolding sum_at term_at factor_at
  no_if ws = refl

  number_read : (n : ℕ) (rest : List FormulaWord) → factor_at inner (w.Number n ∷ rest) ≡ Some (f.Number n, rest)
  unfolding factor_at
  number_read n rest = refl

  variable_read : (v : Var) (rest : List FormulaWord) → factor_at inner (w.Variable v ∷ rest) ≡ Some (f.Variable v, rest)
  unfolding factor_at
  variable_read v rest = refl

  bracket_read : (ws rest : List FormulaWord) (x : Formula) → inner ws ≡ Some (x, w.Close ∷ rest) → factor_at inner (w.Open ∷ ws) ≡ Some (x, rest)
  unfolding factor_at bracketed_at
  bracket_read ws rest x e = rw e refl

  min_read : (ws mid rest : List FormulaWord) (x y : Formula) → inner ws ≡ Some (x, w.Comma ∷ mid) → inner mid ≡ Some (y, w.Close ∷ rest) → factor_at inner (w.Min ∷ (w.Open ∷ ws)) ≡ Some (Min x y, rest)
  unfolding factor_at pair_at
  min_read ws mid rest x y a b = rw (a, b) refl

  max_read : (ws mid rest : List FormulaWord) (x y : Formula) → inner ws ≡ Some (x, w.Comma ∷ mid) → inner mid ≡ Some (y, w.Close ∷ rest) → factor_at inner (w.Max ∷ (w.Open ∷ ws)) ≡ Some (Max x y, rest)
  unfolding factor_at pair_at
  max_read ws mid rest x y a b = rw (a, b) refl

  if_read : (test : _) (w0 w1 w2 w3 rest : List FormulaWord) (x y a b : Formula) → sum_at inner w0 ≡ Some (x, w.Test test ∷ w1) → sum_at inner w1 ≡ Some (y, w.Then ∷ w2) → inner w2 ≡ Some (a, w.Else ∷ w3) → inner w3 ≡ Some (b, rest) → whole_by inner (w.If ∷ w0) ≡ Some (If test x y a b, rest)
  unfolding whole_by conditional_at comparison_at branches_at
  if_read test w0 w1 w2 w3 rest x y a b p q r s = rw (p, q, r, s) refl

  -- a sum is no `if`
  sum_read : (ws rest : List FormulaWord) (x : Formula) → sum_at inner ws ≡ Some (x, rest) → whole_by inner ws ≡ Some (x, rest)
  unfolding whole_by
  sum_read (w.If ∷ ws) rest x e = let none = no_if ws in cc
  sum_read [] rest x e = e
  sum_read (_ ∷ ws) rest x e = e

deeper : (n : ℕ) (ws : List FormulaWord) (found : Option (Formula × List FormulaWord)) → 0 < n → whole_by (whole_at (n - 1)) ws ≡ found → whole_at n ws ≡ found
deeper n ws found h e = at_some n ws h ∙ e

len : (a b : List FormulaWord) → length (a ++ b) ≡ length a + length b
len a b = length-append a b

-- an operand that is followed by no sign of a product
whole_term : (n : ℕ) (ws rest : List FormulaWord) (y : Formula) → NoProduct rest → Stands (term_at (whole_at n) (ws ++ rest)) product_sign_of (factor_at (whole_at n)) y rest → term_at (whole_at n) (ws ++ rest) ≡ Some (y, rest)
whole_term n ws rest y none st = ended st none

-- one more factor, or one more term
factor_more : (x y : Formula) (a b : List FormulaWord) (w : FormulaWord) (s : Sign) → ((ws : List FormulaWord) → product_sign_of (w ∷ ws) ≡ (Some s, ws)) → Read Term a x → Read Factor b y → Read Term (a ++ w ∷ b) (joined s x y)
factor_more x y a b w s is ra rb n rest le =
    let l = len a (w ∷ b) in
    let lr = len b rest in
    let st = ra n (w ∷ (b ++ rest)) (omega arith) in
    let st' = went s y (b ++ rest) rest st (is (b ++ rest)) (rb n rest (omega arith)) (omega arith) in
    subst (λ ws. Stands (term_at (whole_at n) ws) product_sign_of (factor_at (whole_at n)) (joined s x y) rest) (sym (append_assoc a (w ∷ b) rest)) st'

term_more : (x y : Formula) (a b : List FormulaWord) (w : FormulaWord) (s : Sign) → ((ws : List FormulaWord) → sum_sign_of (w ∷ ws) ≡ (Some s, ws)) → ((ws : List FormulaWord) → NoProduct (w ∷ ws)) → Read Sum a x → Read Term b y → Read Sum (a ++ w ∷ b) (joined s x y)
term_more x y a b w s is no_product ra rb n rest le none =
    let l = len a (w ∷ b) in
    let lr = len b rest in
    let st = ra n (w ∷ (b ++ rest)) (omega arith) (no_product (b ++ rest)) in
    let st' = went s y (b ++ rest) rest st (is (b ++ rest)) (ended (rb n rest (omega arith)) none) (omega arith) in
    subst (λ ws. Stands (sum_at (whole_at n) ws) sum_sign_of (term_at (whole_at n)) (joined s x y) rest) (sym (append_assoc a (w ∷ b) rest)) st'

-- where the words begin another list
inside : (n : ℕ) (x : Formula) (a rest : List FormulaWord) → Read Whole a x → length a < n → NoProduct rest → NoSum rest → (ws : List FormulaWord) → ws ≡ a ++ rest → whole_at n ws ≡ Some (x, rest)
inside n x a rest r le p s ws e = ap (whole_at n) e ∙ r n rest le p s

sum_inside : (n : ℕ) (x : Formula) (a rest : List FormulaWord) → Read Sum a x → length a ≤ n → NoProduct rest → NoSum rest → (ws : List FormulaWord) → ws ≡ a ++ rest → sum_at (whole_at n) ws ≡ Some (x, rest)
sum_inside n x a rest r le p s ws e = ap (sum_at (whole_at n)) e ∙ ended (r n rest le p) s

pair_inside : (n : ℕ) (x y : Formula) (a b rest : List FormulaWord) → Read Whole a x → Read Whole b y → length (a ++ (w.Comma ∷ (b ++ w.Close ∷ []))) < n →
    (whole_at n ((a ++ (w.Comma ∷ (b ++ w.Close ∷ []))) ++ rest) ≡ Some (x, w.Comma ∷ ((b ++ w.Close ∷ []) ++ rest))) × (whole_at n ((b ++ w.Close ∷ []) ++ rest) ≡ Some (y, w.Close ∷ rest))
pair_inside n x y a b rest ra rb le =
    let l = len a (w.Comma ∷ (b ++ w.Close ∷ [])) in
    let m = len b (w.Close ∷ []) in
    (inside n x a (w.Comma ∷ ((b ++ w.Close ∷ []) ++ rest)) ra (omega arith) refl refl _ (append_assoc a (w.Comma ∷ (b ++ w.Close ∷ [])) rest), inside n y b (w.Close ∷ rest) rb (omega arith) refl refl _ (append_assoc b (w.Close ∷ []) rest))

if_inside : (n : ℕ) (test : Test) (x y s t : Formula) (a b c d rest : List FormulaWord) → Read Sum a x → Read Sum b y → Read Whole c s → Read Whole d t
    → length (a ++ (w.Test test ∷ (b ++ (w.Then ∷ (c ++ (w.Else ∷ d)))))) < n → NoProduct rest → NoSum rest
    → whole_by (whole_at n) (w.If ∷ ((a ++ (w.Test test ∷ (b ++ (w.Then ∷ (c ++ (w.Else ∷ d)))))) ++ rest)) ≡ Some (If test x y s t, rest)
if_inside n test x y s t a b c d rest ra rb rc rd le np ns =
    let l0 = len a (w.Test test ∷ (b ++ (w.Then ∷ (c ++ (w.Else ∷ d))))) in
    let l1 = len b (w.Then ∷ (c ++ (w.Else ∷ d))) in
    let l2 = len c (w.Else ∷ d) in
    if_read (whole_at n) test _ ((b ++ (w.Then ∷ (c ++ (w.Else ∷ d)))) ++ rest) ((c ++ (w.Else ∷ d)) ++ rest) (d ++ rest) rest x y s t
    (sum_inside n x a _ ra (omega arith) refl refl _ (append_assoc a _ rest))
    (sum_inside n y b _ rb (omega arith) refl refl _ (append_assoc b _ rest))
    (inside n s c _ rc (omega arith) refl refl _ (append_assoc c _ rest))
    (rd n rest (omega arith) np ns)

pub reads : {r : Rank} {ws : List FormulaWord} {x : Formula} → Spells r ws x → Read r ws x
reads (g.number {n}) = λ m rest le. number_read (whole_at m) n rest
reads (g.variable {x}) = λ m rest le. variable_read (whole_at m) x rest
reads (g.brackets {a} {x} h) = λ n rest le.
    let l = len a (w.Close ∷ []) in
    bracket_read (whole_at n) ((a ++ w.Close ∷ []) ++ rest) rest x (inside n x a (w.Close ∷ rest) (reads h) (omega arith) refl refl _ (append_assoc a (w.Close ∷ []) rest))
reads (g.minimum {a} {b} {x} {y} h k) = λ n rest le.
    let p = pair_inside n x y a b rest (reads h) (reads k) (omega arith) in min_read (whole_at n) _ _ rest x y p.0 p.1
reads (g.maximum {a} {b} {x} {y} h k) = λ n rest le.
    let p = pair_inside n x y a b rest (reads h) (reads k) (omega arith) in max_read (whole_at n) _ _ rest x y p.0 p.1
reads (g.factor {a} {x} h) = λ n rest le. begun (whole_at n) (a ++ rest) rest x (reads h n rest le)
reads (g.product {a} {b} {x} {y} h k) = factor_more x y a b w.Times s.Times (λ ws. refl) (reads h) (reads k)
reads (g.quotient {a} {b} {x} {y} h k) = factor_more x y a b w.Over s.Over (λ ws. refl) (reads h) (reads k)
reads (g.term {a} {x} h) = λ n rest le none. sum_begun (whole_at n) (a ++ rest) rest x (ended (reads h n rest le) none)
reads (g.sum {a} {b} {x} {y} h k) = term_more x y a b w.Plus s.Plus (λ ws. refl) (λ ws. refl) (reads h) (reads k)
reads (g.difference {a} {b} {x} {y} h k) = term_more x y a b w.Minus s.Minus (λ ws. refl) (λ ws. refl) (reads h) (reads k)
reads (g.whole {a} {x} h) = λ n rest le np ns.
    deeper n (a ++ rest) (Some (x, rest)) (omega arith) (sum_read (whole_at (n - 1)) (a ++ rest) rest x (ended (reads h (n - 1) rest (omega arith) np) ns))
reads (g.conditional {a} {b} {c} {d} {x} {y} {s} {t} test h k p q) = λ n rest le np ns.
    deeper n _ _ (omega arith) (if_inside (n - 1) test x y s t a b c d rest (reads h) (reads k) (reads p) (reads q) (omega arith) np ns)

-- what all the words spell is read
pub reads_all : (ws : List FormulaWord) (x : Formula) → Spells Whole ws x → whole_at (length ws + 1) ws ≡ Some (x, [])
reads_all ws x h = ap (whole_at (length ws + 1)) (sym (append-nil ws)) ∙ reads h (length ws + 1) [] (omega arith) refl refl

pub one : (ws : List FormulaWord) (x y : Formula) → Spells Whole ws x → Spells Whole ws y → x ≡ y
one ws x y h k = (some_pair_parts x y [] [] (sym (reads_all ws x h) ∙ reads_all ws y k)).0
