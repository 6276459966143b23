-- A statement is read as it is spelled, and nothing else is read.
use Rattle.std.proofs.Common.{◌≡◌, ℕ, ◌≤◌, ◌&&◌, Bool, true, false, nat_lt, List, [], ◌∷◌, ◌++◌, map, length, codes, Option, Some, None, if◌then◌else◌, refl, sym, ap, ◌∙◌, subst, arith, append-nil}
use Rattle.std.specs.List.{find}
use Rattle.std.specs.Option.{option_map}
use Rattle.std.proofs.lemmas.Bool.{lt-ltb, ltb-true, and_parts}
use Rattle.std.proofs.lemmas.Option.{some_pair_parts}
use Rattle.star_model.specs.Costs.{flavours}
use Rattle.star_model.specs.Vectors.{same_numbers}
use Rattle.star_model.specs.declared.plans.GlueOp.{GlueOp}
use Rattle.star_model.specs.declared.plans.GlueOp.TheVariants as glue
use Rattle.star_model.specs.declared.rules.Flavour.{Flavour}
use Rattle.star_model.specs.declared.rules.Flavour.TheVariants as flavour
use Rattle.star_model.proofs.Laws.{same_are}
use Rattle.spelling.specs.Lexemes.{Lexeme, Word, Number}
use Rattle.star_model.specs.Every.{Every}
use Rattle.star_model.specs.FlavourWords.{flavour_word, flavour_of}
use Rattle.derivation_reading.specs.Derivations.{Step, Glue, Goal, Reference, Operator, glue_word, set_lexemes, split_lexemes, statement_of, IsMask, IsCounted, AreMasks, IsStep}
use Rattle.spelling.specs.Reading.{◌>>=◌, pure, given, the_word, a_word, a_number}
use Rattle.spelling.specs.ReadingCases.{then_reads, pass, choose, given_reads}
use Rattle.spelling.proofs.Laws.{the_word_reads, a_word_reads, a_number_reads}
use Rattle.derivation_reading.specs.StatementReading.{glue_operator, chain_at, counted, counted_at, values_at, set_at, split_at, goal_at, reference_at, behind, node_at}
use Rattle.derivation_reading.proofs.SeriesLaws.{IsItem, up_to-read, up_to-spelled}
use Rattle.derivation_reading.proofs.SetLaws.{set_is_read, set_is_spelled}

-- ---- the operators of Glue

glue_named : (o : GlueOp) → glue_operator (glue_word o) ≡ Some o
glue_named glue.Sort = refl
glue_named glue.Ship = refl
glue_named glue.Store = refl

glue_found : (word : List ℕ) (o : GlueOp) → glue_operator word ≡ Some o → word ≡ glue_word o
glue_found word o found = at (same_numbers word (codes "sort")) (same_numbers word (codes "ship")) (same_numbers word (codes "store")) refl refl refl found
  where
    at : (a b c : Bool) → same_numbers word (codes "sort") ≡ a → same_numbers word (codes "ship") ≡ b → same_numbers word (codes "store") ≡ c
        → (if a then Some glue.Sort else if b then Some glue.Ship else if c then Some glue.Store else None) ≡ Some o → word ≡ glue_word o
    at true b c is _ _ there = let e : glue.Sort ≡ o = cc in same_are word (codes "sort") is ∙ ap glue_word e
    at false true c _ is _ there = let e : glue.Ship ≡ o = cc in same_are word (codes "ship") is ∙ ap glue_word e
    at false false true _ _ is there = let e : glue.Store ≡ o = cc in same_are word (codes "store") is ∙ ap glue_word e
    at false false false _ _ _ there = absurd cc

abbrev word_of : GlueOp → Lexeme
word_of o = Word (glue_word o)

glue_item : IsItem a_word glue_operator word_of (λ _. Unit {0})
glue_item = record {
  key = glue_word;
  none = refl;
  read = λ o rest. refl;
  found = λ o _. glue_named o;
  spelled = λ lexemes rest word o there is. (a_word_reads lexemes rest word).0 there ∙ ap (λ (w : List ℕ). Word w ∷ rest) (glue_found word o is);
  good = λ word o is. tt;
}

-- ---- numbers

counted_is : (n : ℕ) → IsCounted n → counted n ≡ Some n
counted_is n is =
    let low : nat_lt 0 n ≡ true = lt-ltb 0 n (omega (arith, is.0)) in
    let high : nat_lt n 65536 ≡ true = lt-ltb n 65536 (omega (arith, is.1)) in
    rw (low, high) refl

is_counted : (n m : ℕ) → counted n ≡ Some m → (n ≡ m) × IsCounted m
is_counted n m found = at (nat_lt 0 n && nat_lt n 65536) refl found
  where
    at : (b : Bool) → (nat_lt 0 n && nat_lt n 65536) ≡ b → (if b then Some n else None) ≡ Some m → (n ≡ m) × IsCounted m
    at true is there =
        let both = and_parts (nat_lt 0 n) (nat_lt n 65536) is in
        let low = ltb-true 0 n both.0 in
        let high = ltb-true n 65536 both.1 in
        let same : n ≡ m = cc in
        (same, (omega (arith, low, same), omega (arith, high, same)))
    at false is there = absurd cc

value_item : IsItem a_number counted Number IsCounted
value_item = record {
  key = λ n. n;
  none = refl;
  read = λ n rest. refl;
  found = counted_is;
  spelled = λ lexemes rest n m there is. (a_number_reads lexemes rest n).0 there ∙ ap (λ (k : ℕ). Number k ∷ rest) (is_counted n m is).0;
  good = λ n m is. (is_counted n m is).1;
}

-- ---- operators

flavour_found : (word : List ℕ) (f : Flavour) → flavour_of word ≡ Some f → word ≡ flavour_word f
unfolding flavour_of
flavour_found word f found = among flavours found
  where
    at : (g : Flavour) (later : Option Flavour) (b : Bool) → same_numbers (flavour_word g) word ≡ b → (if b then Some g else later) ≡ Some f → (later ≡ Some f → word ≡ flavour_word f) → word ≡ flavour_word f
    at g later true is there next = let e : g ≡ f = cc in sym (same_are (flavour_word g) word is) ∙ ap flavour_word e
    at g later false is there next = next there

    among : (list : List Flavour) → find (λ g. same_numbers (flavour_word g) word) list ≡ Some f → word ≡ flavour_word f
    among [] there = absurd cc
    among (g ∷ list) there = at g (find (λ h. same_numbers (flavour_word h) word) list) (same_numbers (flavour_word g) word) refl there (among list)

operator_read : (f : Flavour) → node_at (Word (flavour_word f) ∷ []) ≡ Some (Operator f, [])
unfolding node_at flavour_of
operator_read flavour.AccessHeap = refl
operator_read flavour.AccessIndex = refl
operator_read flavour.Get = refl
operator_read flavour.Filter = refl
operator_read flavour.Sort = refl
operator_read flavour.Store = refl
operator_read flavour.Ship = refl
operator_read flavour.Probe = refl
operator_read flavour.JoinNl = refl
operator_read flavour.JoinMerge = refl
operator_read flavour.JoinHash = refl
operator_read flavour.Intersect = refl

-- ---- what is spelled is read

every_operator : (chain : List GlueOp) → Every (λ _. Unit {0}) chain
every_operator [] = tt
every_operator (o ∷ chain) = (tt, every_operator chain)

split_read : (split : Option (ℕ × ℕ)) → AreMasks split → split_at (split_lexemes split) ≡ Some (split, [])
unfolding split_at
split_read None masks = refl
split_read (Some parts) masks =
    let left = set_is_read parts.0 (set_lexemes parts.1) masks.0 in
    let right = subst (λ (l : List Lexeme). set_at l ≡ Some (parts.1, [])) (append-nil (set_lexemes parts.1)) (set_is_read parts.1 [] masks.1) in
    rw (left, right) refl

pub node_is_read : (node : Step) → IsStep node → node_at (statement_of node) ≡ Some (node, [])
unfolding node_at chain_at goal_at reference_at counted_at values_at
node_is_read (Glue chain) is = rw (up_to-read a_word glue_operator word_of (λ _. Unit {0}) glue_item 3 [] chain is (every_operator chain)) refl
node_is_read (Goal goal split) is =
    let behind_pushed = set_lexemes goal.pushed ++ split_lexemes split in
    rw (set_is_read goal.tables (Word (codes "pushed") ∷ behind_pushed) is.0, set_is_read goal.pushed (split_lexemes split) is.1, split_read split is.2) refl
node_is_read (Reference star alternative values) is =
    rw (counted_is alternative is.0, up_to-read a_number counted Number IsCounted value_item 2 [] values is.1 is.2) refl
node_is_read (Operator f) is = operator_read f

-- ---- what is read is spelled

pub record IsNode (lexemes : List Lexeme) (node : Step) : Type 0 where
  pub are : lexemes ≡ statement_of node
  pub stands : IsStep node

chain_spelled : (lexemes : List Lexeme) (chain : List GlueOp) → chain_at lexemes ≡ Some (chain, []) → (lexemes ≡ map word_of chain) × (length chain ≤ 3)
unfolding chain_at
chain_spelled lexemes chain read =
    let are = up_to-spelled a_word glue_operator word_of (λ _. Unit {0}) glue_item 3 [] lexemes chain [] read in
    (are.spelled ∙ append-nil (map word_of are.more) ∙ ap (map word_of) (sym are.are), omega (arith, are.few, ap length are.are))

values_spelled : (lexemes : List Lexeme) (values : List ℕ) → values_at lexemes ≡ Some (values, []) → (lexemes ≡ map Number values) × (length values ≤ 2) × Every IsCounted values
unfolding values_at
values_spelled lexemes values read =
    let are = up_to-spelled a_number counted Number IsCounted value_item 2 [] lexemes values [] read in
    (are.spelled ∙ append-nil (map Number are.more) ∙ ap (map Number) (sym are.are), omega (arith, are.few, ap length are.are), subst (Every IsCounted) (sym are.are) are.every)

split_spelled : (lexemes : List Lexeme) (split : Option (ℕ × ℕ)) → split_at lexemes ≡ Some (split, []) → (lexemes ≡ split_lexemes split) × AreMasks split
unfolding split_at
split_spelled lexemes split read =
    choose (the_word (codes "split")) (λ _. set_at >>= λ left. set_at >>= λ right. pure (Some (left, right))) (pure None) lexemes split [] read
    (λ _ inside there parts.
    then_reads set_at (λ left. set_at >>= λ right. pure (Some (left, right))) inside split [] parts (λ left behind_left left_is read_right.
    then_reads set_at (λ right. pure (Some (left, right))) behind_left split [] read_right (λ right behind_right right_is last.
    two inside behind_left behind_right left right there left_is right_is last)))
    (λ none. let parts = some_pair_parts None split lexemes [] none in no_split split parts.0 parts.1)
  where
    no_split : (split : Option (ℕ × ℕ)) → None ≡ split → lexemes ≡ [] → (lexemes ≡ split_lexemes split) × AreMasks split
    no_split None is are = (are, tt)
    no_split (Some parts) is are = absurd cc

    is_two : (left right : ℕ) (split : Option (ℕ × ℕ)) → Some (left, right) ≡ split → IsMask left → IsMask right → lexemes ≡ Word (codes "split") ∷ (set_lexemes left ++ set_lexemes right)
        → (lexemes ≡ split_lexemes split) × AreMasks split
    is_two left right split is first second are =
        subst (λ (s : Option (ℕ × ℕ)). (lexemes ≡ split_lexemes s) × AreMasks s) is ((are, (first, second)))

    two : (inside behind_left behind_right : List Lexeme) (left right : ℕ) → the_word (codes "split") lexemes ≡ Some (tt, inside) → set_at inside ≡ Some (left, behind_left)
        → set_at behind_left ≡ Some (right, behind_right) → ◌≡◌ {A = Option (Option (ℕ × ℕ) × List Lexeme)} (Some (Some (left, right), behind_right)) (Some (split, []))
        → (lexemes ≡ split_lexemes split) × AreMasks split
    two inside behind_left behind_right left right there left_is right_is last =
        let parts = some_pair_parts (Some (left, right)) split behind_right [] last in
        let first = set_is_spelled inside left behind_left left_is in
        let second = set_is_spelled behind_left right behind_right right_is in
        let end = second.are ∙ ap (λ (l : List Lexeme). set_lexemes right ++ l) parts.1 ∙ append-nil (set_lexemes right) in
        is_two left right split parts.0 first.mask second.mask
        ((the_word_reads (codes "split") lexemes inside).0 there ∙ ap (λ (l : List Lexeme). Word (codes "split") ∷ l) (first.are ∙ ap (λ (l : List Lexeme). set_lexemes left ++ l) end))

goal_spelled : (lexemes : List Lexeme) (node : Step) → goal_at lexemes ≡ Some (node, []) → IsNode (Word (codes "goal") ∷ lexemes) node
unfolding goal_at
goal_spelled lexemes node read =
    then_reads set_at _ lexemes node [] read (λ tables behind_tables tables_are read_pushed.
    pass (the_word (codes "pushed")) _ behind_tables node [] read_pushed (λ inside there read_set.
    then_reads set_at _ inside node [] read_set (λ pushed behind_pushed pushed_are read_split.
    then_reads split_at _ behind_pushed node [] read_split (λ split behind_split split_is last.
    let parts = some_pair_parts (Goal (record { tables = tables; pushed = pushed }) split) node behind_split [] last in
    let first = set_is_spelled lexemes tables behind_tables tables_are in
    let second = set_is_spelled inside pushed behind_pushed pushed_are in
    let third = split_spelled behind_pushed split (split_is ∙ ap (λ (l : List Lexeme). Some (split, l)) parts.1) in
    subst (IsNode (Word (codes "goal") ∷ lexemes)) parts.0 (record {
      are = ap (λ (l : List Lexeme). Word (codes "goal") ∷ l)
          (first.are ∙ ap (λ (l : List Lexeme). set_lexemes tables ++ l)
          ((the_word_reads (codes "pushed") behind_tables inside).0 there ∙ ap (λ (l : List Lexeme). Word (codes "pushed") ∷ l)
          (second.are ∙ ap (λ (l : List Lexeme). set_lexemes pushed ++ l) third.0)));
      stands = (first.mask, second.mask, third.1);
    })))))

reference_spelled : (lexemes : List Lexeme) (node : Step) → reference_at lexemes ≡ Some (node, []) → IsNode (Word (codes "ref") ∷ lexemes) node
unfolding reference_at counted_at
reference_spelled lexemes node read =
    then_reads a_word _ lexemes node [] read (λ star behind_star star_is read_number.
    then_reads counted_at _ behind_star node [] read_number (λ alternative behind_number number_is read_values.
    then_reads a_number (λ n. given (counted n)) behind_star alternative behind_number number_is (λ n left there given_there.
    let given_is = given_reads (counted n) left alternative behind_number given_there in
    let number = is_counted n alternative given_is.0 in
    then_reads values_at _ behind_number node [] read_values (λ values behind_values values_are last.
    let parts = some_pair_parts (Reference star alternative values) node behind_values [] last in
    let rest = values_spelled behind_number values (values_are ∙ ap (λ (l : List Lexeme). Some (values, l)) parts.1) in
    subst (IsNode (Word (codes "ref") ∷ lexemes)) parts.0 (record {
      are = ap (λ (l : List Lexeme). Word (codes "ref") ∷ l)
          ((a_word_reads lexemes behind_star star).0 star_is ∙ ap (λ (l : List Lexeme). Word star ∷ l)
          ((a_number_reads behind_star left n).0 there ∙ ap (λ (k : ℕ). Number k ∷ left) number.0 ∙ ap (λ (l : List Lexeme). Number alternative ∷ l) (given_is.1 ∙ rest.0)));
      stands = (number.1, rest.1, rest.2);
    })))))

operator_spelled : (word : List ℕ) (lexemes : List Lexeme) (node : Step) → given (option_map Operator (flavour_of word)) lexemes ≡ Some (node, []) → IsNode (Word word ∷ lexemes) node
operator_spelled word lexemes node read = at (flavour_of word) refl read
  where
    at : (found : Option Flavour) → flavour_of word ≡ found → given (option_map Operator found) lexemes ≡ Some (node, []) → IsNode (Word word ∷ lexemes) node
    at None is there = absurd cc
    at (Some f) is there =
        let parts = some_pair_parts (Operator f) node lexemes [] there in
        subst (IsNode (Word word ∷ lexemes)) parts.0 (record {
          are = ap (λ (l : List Lexeme). Word word ∷ l) parts.1 ∙ ap (λ (w : List ℕ). Word w ∷ []) (flavour_found word f is);
          stands = tt;
        })

glue_spelled : (lexemes : List Lexeme) (node : Step) → (chain_at >>= (λ chain. pure (Glue chain))) lexemes ≡ Some (node, []) → IsNode (Word (codes "glue") ∷ lexemes) node
glue_spelled lexemes node read =
    then_reads chain_at (λ chain. pure (Glue chain)) lexemes node [] read (λ chain left chain_is last.
    let parts = some_pair_parts (Glue chain) node left [] last in
    let are = chain_spelled lexemes chain (chain_is ∙ ap (λ (l : List Lexeme). Some (chain, l)) parts.1) in
    subst (IsNode (Word (codes "glue") ∷ lexemes)) parts.0 (record { are = ap (λ (l : List Lexeme). Word (codes "glue") ∷ l) are.0; stands = are.1 }))

pub node_is_spelled : (lexemes : List Lexeme) (node : Step) → node_at lexemes ≡ Some (node, []) → IsNode lexemes node
unfolding node_at
node_is_spelled lexemes node read =
    then_reads a_word behind lexemes node [] read (λ word left there read_on.
    let here = sym ((a_word_reads lexemes left word).0 there) in
    subst (λ (l : List Lexeme). IsNode l node) here
    (at word left (same_numbers word (codes "glue")) (same_numbers word (codes "goal")) (same_numbers word (codes "ref")) refl refl refl read_on))
  where
    at : (word : List ℕ) (left : List Lexeme) (a b c : Bool) → same_numbers word (codes "glue") ≡ a → same_numbers word (codes "goal") ≡ b → same_numbers word (codes "ref") ≡ c
        → (if a then chain_at >>= (λ chain. pure (Glue chain)) else if b then goal_at else if c then reference_at else given (option_map Operator (flavour_of word))) left ≡ Some (node, [])
        → IsNode (Word word ∷ left) node
    at word left true b c is _ _ then_ = subst (λ (w : List ℕ). IsNode (Word w ∷ left) node) (sym (same_are word (codes "glue") is)) (glue_spelled left node then_)
    at word left false true c _ is _ then_ = subst (λ (w : List ℕ). IsNode (Word w ∷ left) node) (sym (same_are word (codes "goal") is)) (goal_spelled left node then_)
    at word left false false true _ _ is then_ = subst (λ (w : List ℕ). IsNode (Word w ∷ left) node) (sym (same_are word (codes "ref") is)) (reference_spelled left node then_)
    at word left false false false _ _ _ then_ = operator_spelled word left node then_
