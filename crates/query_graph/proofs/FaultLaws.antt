-- The faults of a text, and which is the first.
use Rattle.std.proofs.Common.{◌≡◌, ℕ, ◌+◌, ◌<◌, ◌≤◌, List, [], ◌∷◌, Some, None, refl, sym, ap, ◌∙◌, subst, ◌⊎◌, inl, inr, arith}
use Prim.Native.Nat.{zero, suc}
use Rattle.std.proofs.lemmas.Bool.{cases_lt}
use Rattle.sb_text.specs.Refusal.{fault_of}
use Rattle.sb_text.specs.declared.token.TextFault.{TextFault}
use Rattle.sb_text.specs.declared.token.TextFault.TheVariants as token_fault
use Rattle.star_model.specs.declared.catalogue.Catalogue.{Catalogue}
use Rattle.star_model.specs.declared.faults.LimitKind.{LimitKind}
use Rattle.star_model.specs.declared.query.Query.{Query}
use Rattle.star_model.specs.WellFormed.{WellFormedQuery}
use Rattle.spelling.specs.Lexemes.{Lexeme, MaybeEnded, statements_in, ended}
use Rattle.star_model.specs.Every.{HasItem}
use Rattle.spelling.specs.Firsts.{FirstAt, NoneHas}
use Rattle.spelling.specs.FirstsCases.{one_first, none_first}
use Rattle.spelling.specs.LimitsCases.{one_limit}
use Rattle.spelling.specs.Limits.{IsFirstBeyond}
use Rattle.spelling.specs.Syntax.{IsUnderstood}
use Rattle.query_graph.specs.Queries.{QueryStatement, query_lexemes, query_of, SpellsQueryStatement, SpellsQuery}
use Rattle.spelling.proofs.Laws.{one_list}
use Rattle.query_graph.proofs.QueryLaws.{one_query_statement, one_query}
use Rattle.query_graph.specs.declared.fault.QueryFault.{QueryFault}
use Rattle.query_graph.specs.declared.fault.QueryFault.TheVariants as fault
use Rattle.query_graph.specs.Syntax.{IsStrangeQueryAt}
use Rattle.query_graph.specs.Faults.{NamesUnknown, DefinesTwice, Beyond, HasTwoTypes, Says, HasFault, fault_rank, IsFirstFault, IsAccepted}

-- ---- one statement

heads : (x y : List Lexeme) → x ∷ [] ≡ y ∷ [] → x ≡ y
heads x y e = cc

pub one_statement : (text : List ℕ) (a b : QueryStatement) → Says text a → Says text b → a ≡ b
one_statement text a b p q =
    let same = heads (query_lexemes a) (query_lexemes b) (one_list text (query_lexemes a ∷ []) (query_lexemes b ∷ []) p.are q.are) in
    one_query_statement (query_lexemes a) a b (record { are = refl; stands = p.stands }) (record { are = same; stands = q.stands })

abbrev IsStrange : List MaybeEnded → MaybeEnded → Type 0
IsStrange before s = HasItem before ⊎ (IsUnderstood SpellsQueryStatement s → ⊥)

understood_first : (q : QueryStatement) (k : ℕ) → IsUnderstood SpellsQueryStatement (ended (query_lexemes q)) → FirstAt IsStrange (ended (query_lexemes q) ∷ []) k → ⊥
understood_first q zero understood first = first
understood_first q (suc zero) understood first = elim first [ inl before ↦ absurd before | inr strange ↦ strange understood ]
understood_first q (suc (suc k)) understood first = first.1

-- a text that is one query has no statement that isn't understood
pub not_strange : (text : List ℕ) (q : QueryStatement) (k : ℕ) → Says text q → IsStrangeQueryAt text k → ⊥
not_strange text q k says (inl none) = let e : [] ≡ ended (query_lexemes q) ∷ [] = sym none.0 ∙ says.are.are in absurd cc
not_strange text q k says (inr first) =
    understood_first q k (q, record { are = refl; stands = says.stands }) (subst (λ (statements : List MaybeEnded). FirstAt IsStrange statements k) says.are.are first)

one_strange : (text : List ℕ) (j k : ℕ) → IsStrangeQueryAt text j → IsStrangeQueryAt text k → j ≡ k
one_strange text j k (inl a) (inl b) = a.1 ∙ sym b.1
one_strange text j k (inl a) (inr b) = absurd (none_strange k (subst (λ (statements : List MaybeEnded). FirstAt IsStrange statements k) a.0 b))
  where
    none_strange : (k : ℕ) → FirstAt IsStrange [] k → ⊥
    none_strange zero first = first
    none_strange (suc k) first = first
one_strange text j k (inr a) (inl b) = absurd (none_strange j (subst (λ (statements : List MaybeEnded). FirstAt IsStrange statements j) b.0 a))
  where
    none_strange : (k : ℕ) → FirstAt IsStrange [] k → ⊥
    none_strange zero first = first
    none_strange (suc k) first = first
one_strange text j k (inr a) (inr b) = one_first IsStrange [] (statements_in text) j k a b

-- ---- one first fault

same_text_fault : (text : List ℕ) (a b : TextFault) → fault_of text ≡ Some a → fault_of text ≡ Some b → a ≡ b
same_text_fault text a b p q = let e : Some a ≡ Some b = sym p ∙ q in cc

module _ (c : Catalogue) (text : List ℕ) where
  one_clash : (j k : ℕ) → HasFault c text (fault.TypeClash j) → HasFault c text (fault.TypeClash k) → j ≡ k
  one_clash j k p q =
      let same = one_query c text p.0 q.0 p.1 q.1 in
      one_first (λ before r. HasTwoTypes q.0 r) [] q.0.preds j k (subst (λ (x : Query). FirstAt (λ before r. HasTwoTypes x r) x.preds j) same p.2) q.2

  same_limits : (j k : ℕ) (a b : LimitKind) → HasFault c text (fault.Limit j a) → HasFault c text (fault.Limit k b) → fault.Limit j a ≡ fault.Limit k b
  same_limits j k a b p q =
      let same = one_statement text p.1 q.1 p.2 q.2 in
      let kind = one_limit (Beyond q.1) a b (subst (λ (x : QueryStatement). IsFirstBeyond (Beyond x) a) same p.3) q.3 in
      λ i. fault.Limit ((p.0 ∙ sym q.0) i) (kind i)

  -- two faults of one rank are one
  same_rank : (f g : QueryFault) → HasFault c text f → HasFault c text g → fault_rank f ≡ fault_rank g → f ≡ g
  same_rank (fault.Lexical a) (fault.Lexical b) p q e =
      let same = same_text_fault text (token_fault.Lexical a) (token_fault.Lexical b) p q in let number : a ≡ b = cc in ap (λ n. fault.Lexical n) number
  same_rank (fault.Lexical a) g p q e = absurd (omega (arith, e))
  same_rank (fault.TooDeep a) (fault.TooDeep b) p q e =
      let same = same_text_fault text (token_fault.TooDeep a) (token_fault.TooDeep b) p q in let number : a ≡ b = cc in ap (λ n. fault.TooDeep n) number
  same_rank (fault.TooDeep a) g p q e = absurd (omega (arith, e))
  same_rank (fault.Syntax a) (fault.Syntax b) p q e = ap (λ n. fault.Syntax n) (one_strange text a b p q)
  same_rank (fault.Syntax a) g p q e = absurd (omega (arith, e))
  same_rank (fault.Unknown a) (fault.Unknown b) p q e = ap (λ n. fault.Unknown n) (p.0 ∙ sym q.0)
  same_rank (fault.Unknown a) g p q e = absurd (omega (arith, e))
  same_rank (fault.Twice a) (fault.Twice b) p q e = ap (λ n. fault.Twice n) (p.0 ∙ sym q.0)
  same_rank (fault.Twice a) g p q e = absurd (omega (arith, e))
  same_rank (fault.Limit j a) (fault.Limit k b) p q e = same_limits j k a b p q
  same_rank (fault.Limit j a) g p q e = absurd (omega (arith, e))
  same_rank (fault.TypeClash j) (fault.TypeClash k) p q e = ap (λ n. fault.TypeClash n) (one_clash j k p q)
  same_rank (fault.TypeClash j) g p q e = absurd (omega (arith, e))
  same_rank fault.Memory g p q e = absurd p

pub one_fault : (c : Catalogue) (text : List ℕ) (f g : QueryFault) → IsFirstFault c text f → IsFirstFault c text g → f ≡ g
one_fault c text f g p q =
    let below : fault_rank f ≤ fault_rank g = p.first g q.has in
    let above : fault_rank g ≤ fault_rank f = q.first f p.has in
    same_rank c text f g p.has q.has (omega (arith, below, above))

-- ---- the stages of judging

-- no fault of a lower rank
none_below : (c : Catalogue) (text : List ℕ) (n : ℕ) → (0 < n → (o : ℕ) → HasFault c text (fault.Lexical o) → ⊥) → (1 < n → (k : ℕ) → HasFault c text (fault.TooDeep k) → ⊥)
    → (2 < n → (k : ℕ) → HasFault c text (fault.Syntax k) → ⊥) → (3 < n → (k : ℕ) → HasFault c text (fault.Unknown k) → ⊥) → (4 < n → (k : ℕ) → HasFault c text (fault.Twice k) → ⊥)
    → (5 < n → (k : ℕ) (what : LimitKind) → HasFault c text (fault.Limit k what) → ⊥) → (6 < n → (k : ℕ) → HasFault c text (fault.TypeClash k) → ⊥)
    → (other : QueryFault) → HasFault c text other → fault_rank other < n → ⊥
none_below c text n lexical deep syntax unknown twice limits clash (fault.Lexical o) has lower = lexical lower o has
none_below c text n lexical deep syntax unknown twice limits clash (fault.TooDeep k) has lower = deep lower k has
none_below c text n lexical deep syntax unknown twice limits clash (fault.Syntax k) has lower = syntax lower k has
none_below c text n lexical deep syntax unknown twice limits clash (fault.Unknown k) has lower = unknown lower k has
none_below c text n lexical deep syntax unknown twice limits clash (fault.Twice k) has lower = twice lower k has
none_below c text n lexical deep syntax unknown twice limits clash (fault.Limit k what) has lower = limits lower k what has
none_below c text n lexical deep syntax unknown twice limits clash (fault.TypeClash k) has lower = clash lower k has
none_below c text n lexical deep syntax unknown twice limits clash fault.Memory has lower = has

is_first : (c : Catalogue) (text : List ℕ) (this : QueryFault) → HasFault c text this → ((other : QueryFault) → HasFault c text other → fault_rank other < fault_rank this → ⊥) → IsFirstFault c text this
is_first c text this has lower =
    record { has = has; first = λ other other_has. elim (cases_lt (fault_rank other) (fault_rank this)) [ inl less ↦ absurd (lower other other_has less) | inr more ↦ more ] }

pub lexical_first : (c : Catalogue) (text : List ℕ) (o : ℕ) → fault_of text ≡ Some (token_fault.Lexical o) → IsFirstFault c text (fault.Lexical o)
lexical_first c text o is = is_first c text (fault.Lexical o) is (λ other has lower. absurd (omega (arith, lower)))

pub deep_first : (c : Catalogue) (text : List ℕ) (k : ℕ) → fault_of text ≡ Some (token_fault.TooDeep k) → IsFirstFault c text (fault.TooDeep k)
deep_first c text k is =
    is_first c text (fault.TooDeep k) is
    (none_below c text 1 (λ l o has. let same = same_text_fault text (token_fault.Lexical o) (token_fault.TooDeep k) has is in absurd cc) (λ l. absurd (omega arith)) (λ l. absurd (omega arith))
    (λ l. absurd (omega arith)) (λ l. absurd (omega arith)) (λ l. absurd (omega arith)) (λ l. absurd (omega arith)))

no_text_fault : (text : List ℕ) (f : TextFault) → fault_of text ≡ None → fault_of text ≡ Some f → ⊥
no_text_fault text f none is = let e : None ≡ Some f = sym none ∙ is in absurd cc

pub strange_first : (c : Catalogue) (text : List ℕ) (k : ℕ) → fault_of text ≡ None → IsStrangeQueryAt text k → IsFirstFault c text (fault.Syntax k)
strange_first c text k accepted strange =
    is_first c text (fault.Syntax k) strange
    (none_below c text 2 (λ l o. no_text_fault text (token_fault.Lexical o) accepted) (λ l j. no_text_fault text (token_fault.TooDeep j) accepted) (λ l. absurd (omega arith))
    (λ l. absurd (omega arith)) (λ l. absurd (omega arith)) (λ l. absurd (omega arith)) (λ l. absurd (omega arith)))

module _ (c : Catalogue) (text : List ℕ) (q : QueryStatement) (accepted : fault_of text ≡ None) (says : Says text q) where
  no_lexical : (o : ℕ) → HasFault c text (fault.Lexical o) → ⊥
  no_lexical o = no_text_fault text (token_fault.Lexical o) accepted

  no_deep : (k : ℕ) → HasFault c text (fault.TooDeep k) → ⊥
  no_deep k = no_text_fault text (token_fault.TooDeep k) accepted

  no_syntax : (k : ℕ) → HasFault c text (fault.Syntax k) → ⊥
  no_syntax k = not_strange text q k says

  pub unknown_first : NamesUnknown c q → IsFirstFault c text (fault.Unknown 1)
  unknown_first unknown =
      is_first c text (fault.Unknown 1) (refl, q, says, unknown)
      (none_below c text 3 (λ l. no_lexical) (λ l. no_deep) (λ l. no_syntax) (λ l. absurd (omega arith)) (λ l. absurd (omega arith)) (λ l. absurd (omega arith)) (λ l. absurd (omega arith)))

  module _ (known : NamesUnknown c q → ⊥) where
    no_unknown : (k : ℕ) → HasFault c text (fault.Unknown k) → ⊥
    no_unknown k has = known (subst (λ (x : QueryStatement). NamesUnknown c x) (one_statement text has.1 q has.2 says) has.3)

    pub twice_first : DefinesTwice q → IsFirstFault c text (fault.Twice 1)
    twice_first twice =
        is_first c text (fault.Twice 1) (refl, q, says, twice)
        (none_below c text 4 (λ l. no_lexical) (λ l. no_deep) (λ l. no_syntax) (λ l. no_unknown) (λ l. absurd (omega arith)) (λ l. absurd (omega arith)) (λ l. absurd (omega arith)))

    module _ (once : DefinesTwice q → ⊥) where
      no_twice : (k : ℕ) → HasFault c text (fault.Twice k) → ⊥
      no_twice k has = once (subst (λ (x : QueryStatement). DefinesTwice x) (one_statement text has.1 q has.2 says) has.3)

      pub limit_first : (what : LimitKind) → IsFirstBeyond (Beyond q) what → IsFirstFault c text (fault.Limit 1 what)
      limit_first what beyond =
          is_first c text (fault.Limit 1 what) (refl, q, says, beyond)
          (none_below c text 5 (λ l. no_lexical) (λ l. no_deep) (λ l. no_syntax) (λ l. no_unknown) (λ l. no_twice) (λ l. absurd (omega arith)) (λ l. absurd (omega arith)))

      module _ (keeps : (what : LimitKind) → Beyond q what → ⊥) where
        no_limit : (k : ℕ) (what : LimitKind) → HasFault c text (fault.Limit k what) → ⊥
        no_limit k what has = keeps what (subst (λ (x : QueryStatement). Beyond x what) (one_statement text has.1 q has.2 says) has.3.beyond)

        module _ (query : Query) (means : query_of c q ≡ Some query) where
          spelled : SpellsQuery c text query
          spelled = record { statement = q; are = says.are; stands = says.stands; means = means }

          pub clash_first : (k : ℕ) → FirstAt (λ before p. HasTwoTypes query p) query.preds k → IsFirstFault c text (fault.TypeClash k)
          clash_first k clash =
              is_first c text (fault.TypeClash k) (query, spelled, clash)
              (none_below c text 6 (λ l. no_lexical) (λ l. no_deep) (λ l. no_syntax) (λ l. no_unknown) (λ l. no_twice) (λ l. no_limit) (λ l. absurd (omega arith)))

          no_clash : NoneHas (λ before p. HasTwoTypes query p) query.preds → (k : ℕ) → HasFault c text (fault.TypeClash k) → ⊥
          no_clash one k has =
              let same = one_query c text has.0 query has.1 spelled in
              none_first (λ before p. HasTwoTypes query p) [] query.preds k one (subst (λ (x : Query). FirstAt (λ before p. HasTwoTypes x p) x.preds k) same has.2)

          pub accepted_query : NoneHas (λ before p. HasTwoTypes query p) query.preds → WellFormedQuery query → IsAccepted c text query
          accepted_query one formed = record {
            spells = spelled;
            formed = formed;
            clear = λ other has.
                none_below c text (fault_rank other + 1) (λ l. no_lexical) (λ l. no_deep) (λ l. no_syntax) (λ l. no_unknown) (λ l. no_twice) (λ l. no_limit) (λ l. no_clash one) other has (omega arith);
          }
