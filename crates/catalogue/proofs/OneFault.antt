-- One text has at most one first fault.
use Rattle.std.proofs.Common.{◌≡◌, ◌-◌, ℕ, List, [], ◌∷◌, map, take, Some, refl, sym, ap, ◌∙◌, subst, arith}
use Rattle.sb_text.specs.declared.token.TextFault.TheVariants as text
use Rattle.star_model.specs.declared.faults.LimitKind.{LimitKind}
use Rattle.star_model.specs.Every.{Every}
use Rattle.spelling.specs.Lexemes.{statements_in}
use Rattle.spelling.specs.Firsts.{FirstAt}
use Rattle.spelling.specs.FirstsCases.{one_first}
use Rattle.spelling.specs.Limits.{IsFirstBeyond}
use Rattle.spelling.specs.LimitsCases.{one_limit}
use Rattle.catalogue.specs.Catalogues.{CatalogueStatement, catalogue_lexemes, HasColumns}
use Rattle.spelling.proofs.Laws.{one_list}
use Rattle.catalogue.proofs.CatalogueLaws.{one_catalogue_statement}
use Rattle.catalogue.specs.declared.fault.CatFault.{CatFault}
use Rattle.catalogue.specs.declared.fault.CatFault.TheVariants.{Lexical, TooDeep, Syntax, Unknown, Twice, Limit, Memory}
use Rattle.catalogue.specs.Defined.{NamesUnknown, DefinesTwice}
use Rattle.catalogue.specs.Beyond.{Beyond}
use Rattle.catalogue.specs.Faults.{SaysStatements, IsLimitAt, WhereSaid, HasFault, fault_rank, IsFirstFault}

-- the lexemes of statements tell them apart
same_list : (a b : List CatalogueStatement) → Every HasColumns a → Every HasColumns b → map catalogue_lexemes a ≡ map catalogue_lexemes b → a ≡ b
same_list [] [] p q e = refl
same_list [] (y ∷ b) p q e = absurd cc
same_list (x ∷ a) [] p q e = absurd cc
same_list (x ∷ a) (y ∷ b) p q e =
    let first : catalogue_lexemes x ≡ catalogue_lexemes y = cc in
    let later : map catalogue_lexemes a ≡ map catalogue_lexemes b = cc in
    let one = one_catalogue_statement (catalogue_lexemes x) x y (record { are = refl; columns = p.0 }) (record { are = first; columns = q.0 }) in
    let more = same_list a b p.1 q.1 later in (λ i. one i ∷ more i)

-- one text says one list of statements
pub same_statements : (source : List ℕ) (a b : List CatalogueStatement) → SaysStatements source a → SaysStatements source b → a ≡ b
same_statements source a b p q = same_list a b p.columns q.columns (one_list source _ _ p.are q.are)

module _ (source : List ℕ) where
  one_said : (Has : List CatalogueStatement → CatalogueStatement → Type 0) (k j : ℕ)
      → WhereSaid source (λ statements. FirstAt Has statements k) → WhereSaid source (λ statements. FirstAt Has statements j) → k ≡ j
  one_said Has k j p q =
      let first = subst (λ (l : List CatalogueStatement). FirstAt Has l k) (same_statements source p.0 q.0 p.1 q.1) p.2 in
      one_first Has [] q.0 k j first q.2

  one_limit_at : (k j : ℕ) (what other : LimitKind)
      → WhereSaid source (λ statements. IsLimitAt statements k what) → WhereSaid source (λ statements. IsLimitAt statements j other) → Limit k what ≡ Limit j other
  one_limit_at k j what other p q =
      let at : IsLimitAt q.0 k what = subst (λ (l : List CatalogueStatement). IsLimitAt l k what) (same_statements source p.0 q.0 p.1 q.1) p.2 in
      let place : k ≡ j = one_first _ [] q.0 k j at.first (q.2).first in
      let there : IsLimitAt q.0 j what = subst (λ (n : ℕ). IsLimitAt q.0 n what) place at in
      let found : Some there.statement ≡ Some (q.2).statement = sym there.is ∙ (q.2).is in
      let statement : there.statement ≡ (q.2).statement = cc in
      let first : IsFirstBeyond (Beyond (take (j - 1) q.0) (q.2).statement) what =
      subst (λ (s : CatalogueStatement). IsFirstBeyond (Beyond (take (j - 1) q.0) s) what) statement there.limit in
      let limit : what ≡ other = one_limit (Beyond (take (j - 1) q.0) (q.2).statement) what other first (q.2).limit in
      (λ i. Limit (place i) (limit i))

  -- of faults of one rank a text has at most one
  same_kind : (f g : CatFault) → fault_rank f ≡ fault_rank g → HasFault source f → HasFault source g → f ≡ g
  same_kind (Lexical o) (Lexical o') rank p q = let e : Some (text.Lexical o) ≡ Some (text.Lexical o') = sym p ∙ q in let same : o ≡ o' = cc in ap Lexical same
  same_kind (Lexical o) (TooDeep k') rank p q = absurd cc
  same_kind (Lexical o) (Syntax k') rank p q = absurd cc
  same_kind (Lexical o) (Unknown k') rank p q = absurd cc
  same_kind (Lexical o) (Twice k') rank p q = absurd cc
  same_kind (Lexical o) (Limit k' what') rank p q = absurd cc
  same_kind (Lexical o) Memory rank p q = absurd cc
  same_kind (TooDeep k) (Lexical o') rank p q = absurd cc
  same_kind (TooDeep k) (TooDeep k') rank p q = let e : Some (text.TooDeep k) ≡ Some (text.TooDeep k') = sym p ∙ q in let same : k ≡ k' = cc in ap TooDeep same
  same_kind (TooDeep k) (Syntax k') rank p q = absurd cc
  same_kind (TooDeep k) (Unknown k') rank p q = absurd cc
  same_kind (TooDeep k) (Twice k') rank p q = absurd cc
  same_kind (TooDeep k) (Limit k' what') rank p q = absurd cc
  same_kind (TooDeep k) Memory rank p q = absurd cc
  same_kind (Syntax k) (Lexical o') rank p q = absurd cc
  same_kind (Syntax k) (TooDeep k') rank p q = absurd cc
  same_kind (Syntax k) (Syntax k') rank p q = ap Syntax (one_first _ [] (statements_in source) k k' p q)
  same_kind (Syntax k) (Unknown k') rank p q = absurd cc
  same_kind (Syntax k) (Twice k') rank p q = absurd cc
  same_kind (Syntax k) (Limit k' what') rank p q = absurd cc
  same_kind (Syntax k) Memory rank p q = absurd cc
  same_kind (Unknown k) (Lexical o') rank p q = absurd cc
  same_kind (Unknown k) (TooDeep k') rank p q = absurd cc
  same_kind (Unknown k) (Syntax k') rank p q = absurd cc
  same_kind (Unknown k) (Unknown k') rank p q = ap Unknown (one_said NamesUnknown k k' p q)
  same_kind (Unknown k) (Twice k') rank p q = absurd cc
  same_kind (Unknown k) (Limit k' what') rank p q = absurd cc
  same_kind (Unknown k) Memory rank p q = absurd cc
  same_kind (Twice k) (Lexical o') rank p q = absurd cc
  same_kind (Twice k) (TooDeep k') rank p q = absurd cc
  same_kind (Twice k) (Syntax k') rank p q = absurd cc
  same_kind (Twice k) (Unknown k') rank p q = absurd cc
  same_kind (Twice k) (Twice k') rank p q = ap Twice (one_said DefinesTwice k k' p q)
  same_kind (Twice k) (Limit k' what') rank p q = absurd cc
  same_kind (Twice k) Memory rank p q = absurd cc
  same_kind (Limit k what) (Lexical o') rank p q = absurd cc
  same_kind (Limit k what) (TooDeep k') rank p q = absurd cc
  same_kind (Limit k what) (Syntax k') rank p q = absurd cc
  same_kind (Limit k what) (Unknown k') rank p q = absurd cc
  same_kind (Limit k what) (Twice k') rank p q = absurd cc
  same_kind (Limit k what) (Limit k' what') rank p q = one_limit_at k k' what what' p q
  same_kind (Limit k what) Memory rank p q = absurd cc
  same_kind Memory (Lexical o') rank p q = absurd cc
  same_kind Memory (TooDeep k') rank p q = absurd cc
  same_kind Memory (Syntax k') rank p q = absurd cc
  same_kind Memory (Unknown k') rank p q = absurd cc
  same_kind Memory (Twice k') rank p q = absurd cc
  same_kind Memory (Limit k' what') rank p q = absurd cc
  same_kind Memory Memory rank p q = refl

  pub one_fault : (f g : CatFault) → IsFirstFault source f → IsFirstFault source g → f ≡ g
  one_fault f g p q =
      let less = p.first g q.has in
      let more = q.first f p.has in
      same_kind f g (omega (arith, less, more)) p.has q.has
