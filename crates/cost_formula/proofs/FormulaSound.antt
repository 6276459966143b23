-- What is read is spelled.
use Rattle.std.proofs.Common.{◌≡◌, ℕ, zero, suc, List, [], ◌∷◌, ◌++◌, Option, Some, None, refl, sym, ap, ◌∙◌, subst, append_assoc, append-nil}
use Rattle.std.proofs.lemmas.Option.{option_and_then_some, some_pair_parts}
use Rattle.star_model.specs.declared.formula.Formula.{Formula}
use Rattle.star_model.specs.declared.formula.Formula.TheVariants as f
use Rattle.star_model.specs.declared.formula.Test.{Test}
use Rattle.star_model.specs.FormulaCases.{Min, Max, If}
use Rattle.cost_formula.specs.declared.formula_word.FormulaWord.{FormulaWord}
use Rattle.cost_formula.specs.declared.formula_word.FormulaWord.TheVariants as w
use Rattle.cost_formula.specs.FormulaGrammar as g
use Rattle.cost_formula.specs.FormulaGrammar.{Rank, Factor, Term, Sum, Whole, Spells}
use Rattle.cost_formula.specs.declared.formula_word.Sign.{Sign}
use Rattle.cost_formula.specs.declared.formula_word.Sign.TheVariants as s
use Rattle.cost_formula.specs.FormulaReading.{Reader, ◌>>=◌, goes_on, joined, turn, after_open, after_close, after_comma, after_then, after_else, test_at, sum_sign_of, product_sign_of, factor_at, bracketed_at, pair_at, term_at, sum_at, comparison_at, branches_at, conditional_at, whole_by, whole_at}
use Rattle.cost_formula.proofs.FormulaTurns.{rests}

-- a formula of this rank stands at the front, and the rest after it
pub record Takes (r : Rank) (ws : List FormulaWord) (x : Formula) (rest : List FormulaWord) : Type 0 where
  pub front : List FormulaWord
  pub is : ws ≡ front ++ rest
  pub spells : Spells r front x

-- what a sign is, and what it makes of two operands
data Seen (r q : Rank) (sign : List FormulaWord → Option Sign × List FormulaWord) : List FormulaWord → Type 0 where
  nothing : {ws : List FormulaWord} → sign ws ≡ (None, ws) → Seen r q sign ws
  something : {after : List FormulaWord} (w : FormulaWord) (s : Sign) → sign (w ∷ after) ≡ (Some s, after) → ((a b : List FormulaWord) (x y : Formula) → Spells r a x → Spells q b y → Spells r (a ++ w ∷ b) (joined s x y)) → Seen r q sign (w ∷ after)

seen_product : (ws : List FormulaWord) → Seen Term Factor product_sign_of ws
seen_product (w.Times ∷ ws) = something w.Times s.Times refl (λ a b x y h k. g.product h k)
seen_product (w.Over ∷ ws) = something w.Over s.Over refl (λ a b x y h k. g.quotient h k)
seen_product [] = nothing refl
seen_product (_ ∷ ws) = nothing refl

seen_sum : (ws : List FormulaWord) → Seen Sum Term sum_sign_of ws
seen_sum (w.Plus ∷ ws) = something w.Plus s.Plus refl (λ a b x y h k. g.sum h k)
seen_sum (w.Minus ∷ ws) = something w.Minus s.Minus refl (λ a b x y h k. g.difference h k)
seen_sum [] = nothing refl
seen_sum (_ ∷ ws) = nothing refl

takes_as : (r : Rank) (ws : List FormulaWord) (x y : Formula) (rest rest' : List FormulaWord) → Takes r ws x rest → (x ≡ y) × (rest ≡ rest') → Takes r ws y rest'
takes_as r ws x y rest rest' t e = record {
  front = t.front;
  is = t.is ∙ ap (λ l. t.front ++ l) e.1;
  spells = subst (λ z. Spells r t.front z) e.0 t.spells;
}

module _ (r q : Rank) (sign : List FormulaWord → Option Sign × List FormulaWord) (operand : Reader Formula) (seen : (ws : List FormulaWord) → Seen r q sign ws) (sound : (ws : List FormulaWord) (x : Formula) (rest : List FormulaWord) → operand ws ≡ Some (x, rest) → Takes q ws x rest) where
  turn_sound : (n : ℕ) (x : Formula) (ws : List FormulaWord) (all : List FormulaWord) (z : Formula) (rest : List FormulaWord) → ((x : Formula) (ws : List FormulaWord) → Takes r all x ws → goes_on sign operand n x ws ≡ Some (z, rest) → Takes r all z rest) → Seen r q sign ws → Takes r all x ws → goes_on sign operand (suc n) x ws ≡ Some (z, rest) → Takes r all z rest
  unfolding goes_on
  turn_sound n x ws all z rest next (nothing none) t e =
      takes_as r all x z ws rest t (some_pair_parts x z ws rest (sym (rests sign operand (suc n) x ws none) ∙ e))
  turn_sound n x _ all z rest next (something {after} w s some makes) t e =
      let e' = sym (ap (λ p. turn operand (goes_on sign operand n) x p.0 p.1) some) ∙ e in
      option_and_then_some (λ p. goes_on sign operand n (joined s x p.0) p.1) (operand after) (z, rest) e' (λ p h k.
      let u = sound after p.0 p.1 h in
      next (joined s x p.0) p.1 (record {
        front = t.front ++ w ∷ u.front;
        is = t.is ∙ ap (λ l. t.front ++ w ∷ l) u.is ∙ sym (append_assoc t.front (w ∷ u.front) p.1);
        spells = makes t.front u.front x p.0 t.spells u.spells;
      }) k)

  goes_sound : (n : ℕ) (x : Formula) (ws : List FormulaWord) (all : List FormulaWord) (z : Formula) (rest : List FormulaWord) → Takes r all x ws → goes_on sign operand n x ws ≡ Some (z, rest) → Takes r all z rest
  unfolding goes_on
  goes_sound zero x ws all z rest t e = takes_as r all x z ws rest t (some_pair_parts x z ws rest e)
  goes_sound (suc n) x ws all z rest t e = turn_sound n x ws all z rest (λ y vs. goes_sound n y vs all z rest) (seen ws) t e

-- what stands after a word
open_ok : (ws rest : List FormulaWord) (u : Unit {0}) → after_open ws ≡ Some (u, rest) → ws ≡ w.Open ∷ rest
open_ok (w.Open ∷ ws) rest u e = ap (λ l. w.Open ∷ l) (some_pair_parts tt u ws rest e).1
open_ok [] rest u e = cc
open_ok (_ ∷ ws) rest u e = cc

close_ok : (ws rest : List FormulaWord) (u : Unit {0}) → after_close ws ≡ Some (u, rest) → ws ≡ w.Close ∷ rest
close_ok (w.Close ∷ ws) rest u e = ap (λ l. w.Close ∷ l) (some_pair_parts tt u ws rest e).1
close_ok [] rest u e = cc
close_ok (_ ∷ ws) rest u e = cc

comma_ok : (ws rest : List FormulaWord) (u : Unit {0}) → after_comma ws ≡ Some (u, rest) → ws ≡ w.Comma ∷ rest
comma_ok (w.Comma ∷ ws) rest u e = ap (λ l. w.Comma ∷ l) (some_pair_parts tt u ws rest e).1
comma_ok [] rest u e = cc
comma_ok (_ ∷ ws) rest u e = cc

then_ok : (ws rest : List FormulaWord) (u : Unit {0}) → after_then ws ≡ Some (u, rest) → ws ≡ w.Then ∷ rest
then_ok (w.Then ∷ ws) rest u e = ap (λ l. w.Then ∷ l) (some_pair_parts tt u ws rest e).1
then_ok [] rest u e = cc
then_ok (_ ∷ ws) rest u e = cc

else_ok : (ws rest : List FormulaWord) (u : Unit {0}) → after_else ws ≡ Some (u, rest) → ws ≡ w.Else ∷ rest
else_ok (w.Else ∷ ws) rest u e = ap (λ l. w.Else ∷ l) (some_pair_parts tt u ws rest e).1
else_ok [] rest u e = cc
else_ok (_ ∷ ws) rest u e = cc

test_ok : (ws rest : List FormulaWord) (t : Test) → test_at ws ≡ Some (t, rest) → ws ≡ w.Test t ∷ rest
test_ok (w.Test v ∷ ws) rest t e = let p = some_pair_parts v t ws rest e in ap (λ x. w.Test x ∷ ws) p.0 ∙ ap (λ l. w.Test t ∷ l) p.1
test_ok [] rest t e = cc
test_ok (_ ∷ ws) rest t e = cc

bind_ok : {A B P : Type 0} (p : Reader A) (q : A → Reader B) (ws : List FormulaWord) (y : B) (rest : List FormulaWord) → (p >>= q) ws ≡ Some (y, rest) → ((x : A) (mid : List FormulaWord) → p ws ≡ Some (x, mid) → q x mid ≡ Some (y, rest) → P) → P
bind_ok p q ws y rest e k = option_and_then_some (λ x. q x.0 x.1) (p ws) (y, rest) e (λ x h i. k x.0 x.1 h i)

pair_ends : (a b rest : List FormulaWord) → a ++ (w.Comma ∷ (b ++ w.Close ∷ rest)) ≡ (a ++ (w.Comma ∷ (b ++ w.Close ∷ []))) ++ rest
pair_ends a b rest = ap (λ l. a ++ (w.Comma ∷ l)) (sym (append_assoc b (w.Close ∷ []) rest)) ∙ sym (append_assoc a (w.Comma ∷ (b ++ w.Close ∷ [])) rest)

if_ends : (t : Test) (a b c d rest : List FormulaWord) → a ++ (w.Test t ∷ (b ++ (w.Then ∷ (c ++ (w.Else ∷ (d ++ rest)))))) ≡ (a ++ (w.Test t ∷ (b ++ (w.Then ∷ (c ++ (w.Else ∷ d)))))) ++ rest
if_ends t a b c d rest =
    ap (λ l. a ++ (w.Test t ∷ (b ++ (w.Then ∷ l)))) (sym (append_assoc c (w.Else ∷ d) rest))
    ∙ ap (λ l. a ++ (w.Test t ∷ l)) (sym (append_assoc b (w.Then ∷ (c ++ (w.Else ∷ d))) rest))
    ∙ sym (append_assoc a (w.Test t ∷ (b ++ (w.Then ∷ (c ++ (w.Else ∷ d))))) rest)

module _ (inner : Reader Formula) (sound : (ws : List FormulaWord) (x : Formula) (rest : List FormulaWord) → inner ws ≡ Some (x, rest) → Takes Whole ws x rest) where
  bracketed_sound : (ws : List FormulaWord) (x : Formula) (rest : List FormulaWord) → bracketed_at inner ws ≡ Some (x, rest) → (a : List FormulaWord) × (ws ≡ a ++ w.Close ∷ rest) × Spells Whole a x
  unfolding bracketed_at
  bracketed_sound ws x rest e =
      bind_ok inner _ ws x rest e (λ y mid h i.
      bind_ok after_close _ mid x rest i (λ u mid' h' i'.
      let p = some_pair_parts y x mid' rest i' in
      let t = sound ws y mid h in
      (t.front, t.is ∙ ap (λ l. t.front ++ l) (close_ok mid mid' u h' ∙ ap (λ l. w.Close ∷ l) p.1), subst (λ z. Spells Whole t.front z) p.0 t.spells)))

  pub record Pair (ws : List FormulaWord) (x y : Formula) (rest : List FormulaWord) : Type 0 where
    pub one : List FormulaWord
    pub two : List FormulaWord
    pub is : ws ≡ w.Open ∷ (one ++ (w.Comma ∷ (two ++ w.Close ∷ rest)))
    pub first : Spells Whole one x
    pub second : Spells Whole two y

  pair_sound : (ws : List FormulaWord) (x y : Formula) (rest : List FormulaWord) → pair_at inner ws ≡ Some ((x, y), rest) → Pair ws x y rest
  unfolding pair_at
  pair_sound ws x y rest e =
      bind_ok after_open _ ws (x, y) rest e (λ u0 m0 h0 e0.
      bind_ok inner _ m0 (x, y) rest e0 (λ x' m1 h1 e1.
      bind_ok after_comma _ m1 (x, y) rest e1 (λ u2 m2 h2 e2.
      bind_ok inner _ m2 (x, y) rest e2 (λ y' m3 h3 e3.
      bind_ok after_close _ m3 (x, y) rest e3 (λ u4 m4 h4 e4.
      let p = some_pair_parts (x', y') (x, y) m4 rest e4 in
      let s = sound m0 x' m1 h1 in
      let t = sound m2 y' m3 h3 in
      record {
        one = s.front;
        two = t.front;
        is = open_ok ws m0 u0 h0 ∙ ap (λ l. w.Open ∷ l) (s.is ∙ ap (λ l. s.front ++ l) (comma_ok m1 m2 u2 h2 ∙ ap (λ l. w.Comma ∷ l) (t.is ∙ ap (λ l. t.front ++ l) (close_ok m3 m4 u4 h4 ∙ ap (λ l. w.Close ∷ l) p.1))));
        first = subst (λ z. Spells Whole s.front z) (ap (λ q. q.0) p.0) s.spells;
        second = subst (λ z. Spells Whole t.front z) (ap (λ q. q.1) p.0) t.spells;
      })))))

  min_made : (ws : List FormulaWord) (x : Formula) (rest : List FormulaWord) → (pair_at inner >>= λ p. λ l. Some (Min p.0 p.1, l)) ws ≡ Some (x, rest) → Takes Factor (w.Min ∷ ws) x rest
  min_made ws x rest e =
      bind_ok (pair_at inner) _ ws x rest e (λ p mid h i.
      let q = some_pair_parts (Min p.0 p.1) x mid rest i in
      let t = pair_sound ws p.0 p.1 mid h in
      record {
        front = w.Min ∷ (w.Open ∷ (t.one ++ (w.Comma ∷ (t.two ++ w.Close ∷ []))));
        is = ap (λ l. w.Min ∷ l) (t.is ∙ ap (λ l. w.Open ∷ (t.one ++ (w.Comma ∷ (t.two ++ w.Close ∷ l)))) q.1 ∙ ap (λ l. w.Open ∷ l) (pair_ends t.one t.two rest));
        spells = subst (λ z. Spells Factor (w.Min ∷ (w.Open ∷ (t.one ++ (w.Comma ∷ (t.two ++ w.Close ∷ []))))) z) q.0 (g.minimum t.first t.second);
      })

  max_made : (ws : List FormulaWord) (x : Formula) (rest : List FormulaWord) → (pair_at inner >>= λ p. λ l. Some (Max p.0 p.1, l)) ws ≡ Some (x, rest) → Takes Factor (w.Max ∷ ws) x rest
  max_made ws x rest e =
      bind_ok (pair_at inner) _ ws x rest e (λ p mid h i.
      let q = some_pair_parts (Max p.0 p.1) x mid rest i in
      let t = pair_sound ws p.0 p.1 mid h in
      record {
        front = w.Max ∷ (w.Open ∷ (t.one ++ (w.Comma ∷ (t.two ++ w.Close ∷ []))));
        is = ap (λ l. w.Max ∷ l) (t.is ∙ ap (λ l. w.Open ∷ (t.one ++ (w.Comma ∷ (t.two ++ w.Close ∷ l)))) q.1 ∙ ap (λ l. w.Open ∷ l) (pair_ends t.one t.two rest));
        spells = subst (λ z. Spells Factor (w.Max ∷ (w.Open ∷ (t.one ++ (w.Comma ∷ (t.two ++ w.Close ∷ []))))) z) q.0 (g.maximum t.first t.second);
      })

  factor_sound : (ws : List FormulaWord) (x : Formula) (rest : List FormulaWord) → factor_at inner ws ≡ Some (x, rest) → Takes Factor ws x rest
  unfolding factor_at
  factor_sound (w.Number n ∷ ws) x rest e =
      let p = some_pair_parts (f.Number n) x ws rest e in
      record { front = w.Number n ∷ []; is = ap (λ l. w.Number n ∷ l) p.1; spells = subst (λ z. Spells Factor (w.Number n ∷ []) z) p.0 g.number }
  factor_sound (w.Variable v ∷ ws) x rest e =
      let p = some_pair_parts (f.Variable v) x ws rest e in
      record { front = w.Variable v ∷ []; is = ap (λ l. w.Variable v ∷ l) p.1; spells = subst (λ z. Spells Factor (w.Variable v ∷ []) z) p.0 g.variable }
  factor_sound (w.Open ∷ ws) x rest e =
      let t = bracketed_sound ws x rest e in
      record { front = w.Open ∷ (t.0 ++ w.Close ∷ []); is = ap (λ l. w.Open ∷ l) (t.1 ∙ sym (append_assoc t.0 (w.Close ∷ []) rest)); spells = g.brackets t.2 }
  factor_sound (w.Min ∷ ws) x rest e = min_made ws x rest e
  factor_sound (w.Max ∷ ws) x rest e = max_made ws x rest e
  factor_sound [] x rest e = cc
  factor_sound (_ ∷ ws) x rest e = cc

  term_sound : (ws : List FormulaWord) (x : Formula) (rest : List FormulaWord) → term_at inner ws ≡ Some (x, rest) → Takes Term ws x rest
  unfolding term_at
  term_sound ws x rest e =
      bind_ok (factor_at inner) _ ws x rest e (λ y mid h i.
      let t = factor_sound ws y mid h in
      goes_sound Term Factor product_sign_of (factor_at inner) seen_product factor_sound _ y mid ws x rest (record { front = t.front; is = t.is; spells = g.factor t.spells }) i)

  sum_sound : (ws : List FormulaWord) (x : Formula) (rest : List FormulaWord) → sum_at inner ws ≡ Some (x, rest) → Takes Sum ws x rest
  unfolding sum_at
  sum_sound ws x rest e =
      bind_ok (term_at inner) _ ws x rest e (λ y mid h i.
      let t = term_sound ws y mid h in
      goes_sound Sum Term sum_sign_of (term_at inner) seen_sum term_sound _ y mid ws x rest (record { front = t.front; is = t.is; spells = g.term t.spells }) i)

  if_sound : (ws : List FormulaWord) (x : Formula) (rest : List FormulaWord) → conditional_at inner ws ≡ Some (x, rest) → Takes Whole (w.If ∷ ws) x rest
  unfolding conditional_at comparison_at branches_at
  if_sound ws x rest e =
      bind_ok (comparison_at inner) _ ws x rest e (λ c m h i.
      bind_ok (branches_at inner) _ m x rest i (λ b m' h' i'.
      bind_ok (sum_at inner) _ ws c m h (λ p m0 h0 e0.
      bind_ok test_at _ m0 c m e0 (λ t m1 h1 e1.
      bind_ok (sum_at inner) _ m1 c m e1 (λ q m2 h2 e2.
      bind_ok after_then _ m b m' h' (λ u3 m3 h3 e3.
      bind_ok inner _ m3 b m' e3 (λ r m4 h4 e4.
      bind_ok after_else _ m4 b m' e4 (λ u5 m5 h5 e5.
      bind_ok inner _ m5 b m' e5 (λ s m6 h6 e6.
      let last = some_pair_parts (If c.1 c.0 c.2 b.0 b.1) x m' rest i' in
      let c_is = some_pair_parts (p, t, q) c m2 m e2 in
      let b_is = some_pair_parts (r, s) b m6 m' e6 in
      let tp = sum_sound ws p m0 h0 in
      let tq = sum_sound m1 q m2 h2 in
      let tr = sound m3 r m4 h4 in
      let ts = sound m5 s m6 h6 in
      record {
        front = w.If ∷ (tp.front ++ (w.Test t ∷ (tq.front ++ (w.Then ∷ (tr.front ++ (w.Else ∷ ts.front))))));
        is = ap (λ l. w.If ∷ l) (tp.is ∙ ap (λ l. tp.front ++ l) (test_ok m0 m1 t h1 ∙ ap (λ l. w.Test t ∷ l) (tq.is ∙ ap (λ l. tq.front ++ l) (c_is.1 ∙ then_ok m m3 u3 h3 ∙ ap (λ l. w.Then ∷ l) (tr.is ∙ ap (λ l. tr.front ++ l) (else_ok m4 m5 u5 h5 ∙ ap (λ l. w.Else ∷ l) (ts.is ∙ ap (λ l. ts.front ++ l) (b_is.1 ∙ last.1)))))))
            ∙ if_ends t tp.front tq.front tr.front ts.front rest);
        spells = subst (λ z. Spells Whole (w.If ∷ (tp.front ++ (w.Test t ∷ (tq.front ++ (w.Then ∷ (tr.front ++ (w.Else ∷ ts.front))))))) z) (ap (λ k. If k.1 k.0 k.2 r s) c_is.0 ∙ ap (λ k. If c.1 c.0 c.2 k.0 k.1) b_is.0 ∙ last.0) (g.conditional t tp.spells tq.spells tr.spells ts.spells);
      })))))))))

  by_sum : (ws : List FormulaWord) (x : Formula) (rest : List FormulaWord) → sum_at inner ws ≡ Some (x, rest) → Takes Whole ws x rest
  by_sum ws x rest e = let t = sum_sound ws x rest e in record { front = t.front; is = t.is; spells = g.whole t.spells }

  whole_sound : (ws : List FormulaWord) (x : Formula) (rest : List FormulaWord) → whole_by inner ws ≡ Some (x, rest) → Takes Whole ws x rest
  unfolding whole_by
  whole_sound (w.If ∷ ws) x rest e = if_sound ws x rest e
  whole_sound [] x rest e = by_sum [] x rest e
  whole_sound (a ∷ ws) x rest e = by_sum (a ∷ ws) x rest e

all_sound : (n : ℕ) (ws : List FormulaWord) (x : Formula) (rest : List FormulaWord) → whole_at n ws ≡ Some (x, rest) → Takes Whole ws x rest
unfolding whole_at
all_sound zero ws x rest e = cc
all_sound (suc n) ws x rest e = whole_sound (whole_at n) (all_sound n) ws x rest e

-- what is read of all the words is spelled by them
pub spelled : (n : ℕ) (ws : List FormulaWord) (x : Formula) → whole_at n ws ≡ Some (x, []) → Spells Whole ws x
spelled n ws x e = let t = all_sound n ws x [] e in subst (λ l. Spells Whole l x) (sym (t.is ∙ append-nil t.front)) t.spells
