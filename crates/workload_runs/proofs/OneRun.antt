-- A workload comes to one answer.
use Rattle.std.proofs.Common.{◌≡◌, ◌<◌, ◌≤◌, ℕ, zero, suc, ◌⊎◌, inl, inr, Bool, true, false, not, ◌&&◌, List, [], ◌∷◌, ◌++◌, length, map, Option, None, Some, refl, ap, sym, subst, ◌∙◌, arith}
use Rattle.std.specs.Prelude.{Contains, slice_get, slice_index_or, nat_lt, pos}
use Rattle.std.specs.List.{list_all}
use Rattle.std.specs.Option.{option_map_or}
use Rattle.std.proofs.lemmas.Bool.{and_parts}
use Rattle.std.proofs.lemmas.List.{length-map}
use Rattle.star_model.specs.Answers.{Data, Assignment, rows_for, value_of, value_of_operand, makes_true, is_in_range, comparison_holds, position_of, all_preds, same_assignment, IsAnswer, Lists, values_of_columns}
use Rattle.star_model.specs.Predicates.{all_quants, preds_in}
use Rattle.star_model.specs.Selectivity.{selects_of, weighed}
use Rattle.star_model.specs.WellFormed.{differ}
use Rattle.star_model.specs.declared.catalogue.Value.{Value}
use Rattle.star_model.specs.declared.catalogue.Value.TheVariants as constant
use Rattle.star_model.specs.declared.columns.Col.{Col}
use Rattle.star_model.specs.declared.query.Operand.{Operand}
use Rattle.star_model.specs.declared.query.Operand.TheVariants as operand
use Rattle.star_model.specs.declared.query.Query.{Query}
use Rattle.star_model.specs.declared.query.QuantDef.{QuantDef}
use Rattle.star_model.specs.declared.rules.RuleFile.{RuleFile}
use Rattle.star_model.proofs.Laws.{same_self}
use Rattle.rule_grammar.proofs.Laws.{one_rule_file}
use Rattle.catalogue.proofs.Laws.{one_catalogue}
use Rattle.query_graph.specs.Queries.{SpellsQuery}
use Rattle.query_graph.proofs.Laws.{one_query}
use Rattle.workload_gen.specs.declared.workload.Workload.{Workload}
use Rattle.workload_gen.specs.Workloads.{IsSize, workload}
use Rattle.workload_runs.specs.declared.tally.Tally.{Tally}
use Rattle.workload_runs.specs.AskedFrontiers.{IsAsked, IsKept}
use Rattle.workload_runs.specs.Cases.{Says}
use Rattle.workload_runs.specs.Counts.{EachOnce, ListsEach, IsCountOf}
use Rattle.workload_runs.specs.Made.{IsMade}
use Rattle.workload_runs.specs.Runs.{RunsTo}
use Rattle.workload_runs.specs.TableRows.{AreRows}
use Rattle.workload_runs.specs.Tallies.{IsLeastCost, HasRows, ComesTo}
use Rattle.workload_runs.proofs.Accepting.{as_many_tables}
use Rattle.workload_runs.proofs.ListLaws.{here, further, head_or_further, nothing_in}
use Rattle.workload_runs.proofs.LoadedTables.{some_at, quantifier_below}

-- ---- counts

abbrev without : {A : Type 0} → List A → ℕ → List A
without [] k = []
without (x ∷ xs) zero = xs
without (x ∷ xs) (suc k) = x ∷ without xs k

length-without : {A : Type 0} (xs : List A) (k : ℕ) → k < length xs → length xs ≡ suc (length (without xs k))
length-without [] k within = absurd (omega (arith, within))
length-without (x ∷ xs) zero within = refl
length-without (x ∷ xs) (suc k) within = ap suc (length-without xs k (omega (arith, within)))

-- what is contained is at this place or stays without it
there_or_without : {A : Type 0} (xs : List A) (k : ℕ) (x y : A) → slice_index_or xs k x ≡ x → k < length xs → Contains xs y → (x ≡ y) ⊎ Contains (without xs k) y
there_or_without [] k x y at within in_ = absurd (nothing_in y in_)
there_or_without (z ∷ xs) zero x y at within in_ = elim (head_or_further z y xs in_) [ inl is ↦ inl (sym at ∙ is) | inr later ↦ inr later ]
there_or_without (z ∷ xs) (suc k) x y at within in_ = elim (head_or_further z y xs in_) [
  | inl is ↦ inr (subst (λ u. Contains (u ∷ without xs k) y) (sym is) (here y (without xs k)))
  | inr later ↦ elim (there_or_without xs k x y at (omega (arith, within)) later) [ inl is ↦ inl is | inr rest ↦ inr (further z y (without xs k) rest) ]
]

no_longer : {A : Type 0} (xs ys : List A) → EachOnce xs → ((x : A) → Contains xs x → Contains ys x) → length xs ≤ length ys
no_longer [] ys once within = omega arith
no_longer (x ∷ xs) ys once within =
    let (k, less, at) = within x (here x xs) in
    let rest = no_longer xs (without ys k) once.1 (λ y in_. elim (there_or_without ys k x y at less (within y (further x y xs in_))) [
      | inl is ↦ absurd (once.0 (subst (Contains xs) (sym is) in_))
      | inr left ↦ left
    ]) in
    let count = length-without ys k less in
    omega (arith, rest, count)

same_length : {A : Type 0} (P : A → Type 0) (xs ys : List A) → ListsEach P xs → ListsEach P ys → length xs ≡ length ys
same_length P xs ys l m =
    let up = no_longer xs ys l.once (λ x in_. (m.members x).1 ((l.members x).0 in_)) in
    let down = no_longer ys xs m.once (λ x in_. (l.members x).1 ((m.members x).0 in_)) in
    omega (arith, up, down)

one_count : {A : Type 0} (P : A → Type 0) (m n : ℕ) → IsCountOf P m → IsCountOf P n → m ≡ n
one_count P m n a b = a.2 ∙ (same_length P a.0 b.0 a.1 b.1 ∙ sym b.2)

one_cost : (rules : RuleFile) (q : Query) (m n : ℕ) → IsLeastCost rules q m → IsLeastCost rules q n → m ≡ n
one_cost rules q m n (d, v, least, is) (e, w, other, are) =
    let up = least.least e w other.root in
    let down = other.least d v least.root in
    omega (arith, up, down, is, are)

-- ---- rows

assignment_self : (q : Query) (d : Data) (a : Assignment) → same_assignment q d a a ≡ true
assignment_self q d a = (λ i. same_self (map (λ p. p.0) a) i && same_self (map (λ p. p.1) a) i)

passes : {A : Type 0} (test : A → Bool) (xs : List A) (x : A) → list_all test xs ≡ true → Contains xs x → test x ≡ true
passes test [] x all in_ = absurd (nothing_in x in_)
passes test (y ∷ xs) x all in_ =
    let parts = and_parts (test y) (list_all test xs) all in
    elim (head_or_further y x xs in_) [ inl is ↦ subst (λ u. test u ≡ true) is parts.0 | inr later ↦ passes test xs x parts.1 later ]

once_assigned : (q : Query) (d : Data) (list : List Assignment) → differ (same_assignment q d) list ≡ true → EachOnce list
once_assigned q d [] apart = tt
once_assigned q d (a ∷ list) apart =
    let parts = and_parts (list_all (λ b. not (same_assignment q d a b)) list) (differ (same_assignment q d) list) apart in (
      (λ again.
          let other = passes (λ b. not (same_assignment q d a b)) list a parts.0 again in
          let bad : false ≡ true = sym (ap not (assignment_self q d a)) ∙ other in
          cc),
      once_assigned q d list parts.1,
    )

module _ (q : Query) (d e : Data) (same : (n : ℕ) → rows_for q d n ≡ rows_for q e n) where
  value_same : (a : Assignment) (c : Col) → value_of q d a c ≡ value_of q e a c
  value_same a c = ap (λ rows. slice_index_or (slice_index_or rows (position_of a c.quant.0) []) c.column (constant.Int (pos 0))) (same c.quant.0)

  operand_same : (a : Assignment) (o : Operand) → value_of_operand q d a o ≡ value_of_operand q e a o
  operand_same a (operand.Column c) = value_same a c
  operand_same a (operand.Constant v) = refl

  answer_same : (tables preds : ℕ) (outer a : Assignment) → IsAnswer q d tables preds outer a → IsAnswer q e tables preds outer a
  answer_same tables preds outer a is =
      let within : is_in_range q d a ≡ is_in_range q e a = (λ i. list_all (λ p. nat_lt p.1 (length (same p.0 i))) a) in
      let holds : list_all (makes_true q d (a ++ outer)) (preds_in q preds) ≡ list_all (makes_true q e (a ++ outer)) (preds_in q preds) =
      (λ i. list_all (λ p. comparison_holds p.cmp (value_same (a ++ outer) p.left i) (operand_same (a ++ outer) p.right i)) (preds_in q preds)) in
      record { quantifiers = is.quantifiers; rows = sym within ∙ is.rows; true_ = sym holds ∙ is.true_ }

listed_once : (q : Query) (d e : Data) → ((n : ℕ) → rows_for q d n ≡ rows_for q e n) → (rows other : List (List Value)) → Lists q d rows → Lists q e other
    → length rows ≡ length other
listed_once q d e same rows other l m =
    let P : Assignment → Type 0 = IsAnswer q d (all_quants q) (all_preds q d) [] in
    let first : ListsEach P l.choices = record { members = l.answer.members; once = once_assigned q d l.choices l.answer.once } in
    let second : ListsEach P m.choices =
    record {
      members = λ a. (
        (λ in_. answer_same q e d (λ n. sym (same n)) (all_quants q) (all_preds q d) [] a ((m.answer.members a).0 in_)),
        (λ is. (m.answer.members a).1 (answer_same q d e same (all_quants q) (all_preds q d) [] a is)),
      );
      once = once_assigned q e m.choices m.answer.once;
    } in
    ap length l.values ∙ (length-map l.choices (values_of_columns q d q.select) ∙ (same_length P l.choices m.choices first second
    ∙ (sym (length-map m.choices (values_of_columns q e q.select)) ∙ sym (ap length m.values))))

module _ (made : Workload) (is : IsMade made) (rules : RuleFile) (query : Query) (says : Says made rules query) where
  some_same : {A : Type 0} (x y : A) → Some x ≡ Some y → x ≡ y
  some_same x y e = cc

  rows_same : (d e : Data) → AreRows query.catalogue made.tables d → AreRows query.catalogue made.tables e → (n : ℕ) → rows_for query d n ≡ rows_for query e n
  rows_same d e of_d of_e n = go (slice_get query.quants n) refl where
    go : (o : Option QuantDef) → slice_get query.quants n ≡ o
        → option_map_or (λ (t : QuantDef). slice_index_or d t.table []) o [] ≡ option_map_or (λ (t : QuantDef). slice_index_or e t.table []) o []
    go None at = refl
    go (Some t) at =
        let below = quantifier_below query says.formed n t at in
        let count = as_many_tables made is rules query says in
        let found = some_at made.tables t.table (omega (arith, below, count)) in
        some_same (slice_index_or d t.table []) (slice_index_or e t.table []) (sym (of_d t.table found.0 found.1) ∙ of_e t.table found.0 found.1)

  one_row_count : (m n : ℕ) → HasRows query made.tables m → HasRows query made.tables n → m ≡ n
  one_row_count m n (d, of_d, (rows, lists, is_m)) (e, of_e, (other, lists_other, is_n)) =
      is_m ∙ (listed_once query d e (rows_same d e of_d of_e) rows other lists lists_other ∙ sym is_n)

  one_answer : (a b : Option Tally) → ComesTo rules query made.tables a → ComesTo rules query made.tables b → a ≡ b
  one_answer None None x y = refl
  one_answer None (Some t) x y = absurd (x y.cost.0 y.cost.1 y.cost.2.root)
  one_answer (Some t) None x y = absurd (y x.cost.0 x.cost.1 x.cost.2.root)
  one_answer (Some t) (Some u) x y =
      let goals = one_count (IsAsked query rules) t.goals u.goals x.goals y.goals in
      let kept = one_count (IsKept query rules) t.kept u.kept x.kept y.kept in
      let cost = one_cost rules query t.cost u.cost x.cost y.cost in
      let rows = one_row_count t.rows u.rows x.rows y.rows in
      (λ i. Some (record { goals = goals i; kept = kept i; cost = cost i; rows = rows i }))

-- ---- the whole

pub one_run : (seed size : ℕ) → IsSize size → (a b : Option Tally) → RunsTo (workload seed size) a → RunsTo (workload seed size) b → a ≡ b
one_run seed size is_size a b r s =
    let made : Workload = workload seed size in
    let rules : r.rules ≡ s.rules = one_rule_file made.rules r.rules s.rules r.says.of_rules s.says.of_rules in
    let over = one_catalogue made.catalogue r.says.spelled.catalogue s.says.spelled.catalogue r.says.of_catalogue s.says.of_catalogue in
    let of_query : SpellsQuery r.says.spelled.catalogue made.query s.says.spelled = subst (λ c. SpellsQuery c made.query s.says.spelled) (sym over) s.says.of_query in
    let spelled = one_query r.says.spelled.catalogue made.query r.says.spelled s.says.spelled r.says.of_query of_query in
    let query : r.query ≡ s.query = r.says.by_rules ∙ ((λ i. weighed (selects_of (rules i)) (spelled i)) ∙ sym s.says.by_rules) in
    let numbers : ComesTo r.rules r.query made.tables b =
    subst (λ (x : RuleFile). ComesTo x r.query made.tables b) (sym rules) (subst (λ (x : Query). ComesTo s.rules x made.tables b) (sym query) s.numbers) in
    one_answer made (record { seed = seed; size = size; is_size = is_size; are = refl }) r.rules r.query r.says a b r.numbers numbers
