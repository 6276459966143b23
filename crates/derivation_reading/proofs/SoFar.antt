-- The nodes that were read, statement by statement.
use Rattle.std.proofs.Common.{◌≡◌, inl, inr, ℕ, ◌+◌, ◌-◌, ◌<◌, ◌≤◌, true, false, List, [], ◌∷◌, ◌++◌, map, length, refl, sym, ap, ◌∙◌, subst, arith, append_assoc, append-nil}
use Rattle.std.proofs.lemmas.List.{map-append, length-map, length_push}
use Rattle.sb_text.specs.declared.token.Token.{Token}
use Rattle.sb_text.specs.Statements.{Part, parts}
use Rattle.sb_text.specs.Refusal.{AreTokens}
use Rattle.spelling.specs.Lexemes.{MaybeEnded, ended, statements_in}
use Rattle.star_model.specs.Every.{Every}
use Rattle.spelling.specs.Cursors.{part_said, IsPartOf}
use Rattle.spelling.specs.Firsts.{NoneHas}
use Rattle.spelling.specs.FirstsCases.{none_more, first_is_new, first_stays}
use Rattle.derivation_reading.specs.Derivations.{Step, statement_of, IsStep}
use Rattle.spelling.proofs.Laws.{parts_said, parts_hold, parts_few}
use Rattle.derivation_reading.specs.declared.places.Awaited.{Awaited}
use Rattle.derivation_reading.specs.declared.places.Awaited.TheVariants as next
use Rattle.derivation_reading.specs.Nodes.{SaysNode}
use Rattle.derivation_reading.specs.Places.{inputs, places_behind, MayStand}
use Rattle.derivation_reading.specs.PlaceTests.{awaited_behind, awaited, takes}
use Rattle.derivation_reading.specs.Faults.{SayNodes, GoesOn, IsStrange, IsStrangeAt}
use Rattle.derivation_reading.specs.Preorder.{Follow, SaysWhole}
use Rattle.derivation_reading.proofs.Understood.{one_node}
use Rattle.derivation_reading.proofs.PlaceLaws.{few_inputs, places-append, awaited-more, taken, not_taken}

abbrev pub statements_for : List Step → List MaybeEnded
statements_for nodes = map ended (map statement_of nodes)

-- ---- one list of nodes

same_nodes : (a b : List Step) → Every IsStep a → Every IsStep b → statements_for a ≡ statements_for b → a ≡ b
same_nodes [] [] p q e = refl
same_nodes [] (y ∷ b) p q e = absurd cc
same_nodes (x ∷ a) [] p q e = absurd cc
same_nodes (x ∷ a) (y ∷ b) p q e =
    let first : ended (statement_of x) ≡ ended (statement_of y) = cc in
    let later : statements_for a ≡ statements_for b = cc in
    let one = one_node (ended (statement_of x)) x y (record { is = refl; stands = p.0 }) (record { is = first; stands = q.0 }) in
    let more = same_nodes a b p.1 q.1 later in (λ i. one i ∷ more i)

pub one_list_of_nodes : (statements : List MaybeEnded) (a b : List Step) → SayNodes statements a → SayNodes statements b → a ≡ b
one_list_of_nodes statements a b p q = same_nodes a b p.stand q.stand (sym p.are ∙ q.are)

pub every-more : (nodes : List Step) (node : Step) → Every IsStep nodes → IsStep node → Every IsStep (nodes ++ node ∷ [])
every-more [] node every stands = (stands, tt)
every-more (x ∷ nodes) node every stands = (every.0, every-more nodes node every.1 stands)

follow-more : (before nodes : List Step) (node : Step) → Follow before nodes → 0 < places_behind 1 (before ++ nodes) → MayStand (before ++ nodes) node → Follow before (nodes ++ node ∷ [])
follow-more before [] node follow place order =
    (subst (λ (l : List Step). 0 < places_behind 1 l) (append-nil before) place, subst (λ (l : List Step). MayStand l node) (append-nil before) order, tt)
follow-more before (x ∷ nodes) node follow place order =
    let e = sym (append_assoc before (x ∷ []) nodes) in
    (follow.0, follow.1, follow-more (before ++ x ∷ []) nodes node follow.2 (subst (λ (l : List Step). 0 < places_behind 1 l) e place) (subst (λ (l : List Step). MayStand l node) e order))

pub statements-more : (nodes : List Step) (node : Step) → statements_for (nodes ++ node ∷ []) ≡ statements_for nodes ++ ended (statement_of node) ∷ []
statements-more nodes node = ap (map ended) (map-append statement_of nodes (node ∷ [])) ∙ map-append ended (map statement_of nodes) (statement_of node ∷ [])

-- ---- what is known between two statements

pub record SoFar (source : List ℕ) (nodes : List Step) (left : List Part) (places : ℕ) (awaits : Awaited) (number : ℕ) : Type 0 where
  pub read : statements_in source ≡ statements_for nodes ++ map (part_said source) left
  pub stand : Every IsStep nodes
  pub clear : NoneHas IsStrange (statements_for nodes)
  pub follow : Follow [] nodes
  pub places_are : places ≡ places_behind 1 nodes
  pub awaited_is : awaits ≡ awaited nodes
  pub tokens : Every (IsPartOf source) left
  pub number_is : number ≡ length nodes + 1
  pub few : number + length left ≤ 1048577
  pub few_places : places ≤ number

pub starts : (source : List ℕ) (tokens : List Token) (places : ℕ) (awaits : Awaited) → AreTokens source tokens → length source ≤ 1048576 → places ≡ 1 → awaits ≡ next.Glue
    → SoFar source [] (parts tokens) places awaits 1
starts source tokens places awaits are size one glue = record {
  read = parts_said source tokens are;
  stand = tt;
  clear = tt;
  follow = tt;
  places_are = one;
  awaited_is = glue;
  tokens = parts_hold source tokens are;
  number_is = refl;
  few = omega (arith, parts_few source tokens are, size);
  few_places = omega (arith, one);
}

module _ (source : List ℕ) (nodes : List Step) (this : Part) (later : List Part) (places : ℕ) (awaits : Awaited) (number : ℕ) (so_far : SoFar source nodes (this ∷ later) places awaits number) where
  -- a statement that doesn't go on is the first
  strange_here : (GoesOn (statements_for nodes) (part_said source this) → ⊥) → IsStrangeAt (statements_in source) number
  strange_here strange =
      let front = statements_for nodes in
      let place : number ≡ length front + 1 = omega (arith, so_far.number_is, length-map nodes statement_of, length-map (map statement_of nodes) ended) in
      let first = first_is_new IsStrange front (part_said source this) so_far.clear strange in
      let behind = first_stays IsStrange (front ++ part_said source this ∷ []) (map (part_said source) later) (length front + 1) first in
      inl (rw (place, so_far.read) (rw append_assoc at behind))

  pub strange_form : ((node : Step) → SaysNode (part_said source this) node → ⊥) → IsStrangeAt (statements_in source) number
  strange_form none = strange_here (λ goes. none goes.node goes.says)

  pub strange_place : (node : Step) → SaysNode (part_said source this) node → takes places awaits node ≡ false → IsStrangeAt (statements_in source) number
  strange_place node says none = strange_here (λ goes. misplaced goes)
    where
      misplaced : GoesOn (statements_for nodes) (part_said source this) → ⊥
      misplaced goes =
          let before = one_list_of_nodes (statements_for nodes) goes.nodes nodes goes.say (record { are = refl; stand = so_far.stand }) in
          let this_one = one_node (part_said source this) goes.node node goes.says says in
          let place = subst (λ (l : List Step). 0 < places_behind 1 l) before goes.place in
          let order = subst (λ (x : Step). MayStand nodes x) this_one (subst (λ (l : List Step). MayStand l goes.node) before goes.order) in
          not_taken nodes node (subst (λ (a : Awaited). takes (places_behind 1 nodes) a node ≡ false) so_far.awaited_is (subst (λ (n : ℕ). takes n awaits node ≡ false) so_far.places_are none)) place order

  pub goes : (node : Step) (new_places : ℕ) (new_awaits : Awaited) → SaysNode (part_said source this) node → takes places awaits node ≡ true
      → new_places ≡ places - 1 + inputs node → new_awaits ≡ awaited_behind node → SoFar source (nodes ++ node ∷ []) later new_places new_awaits (number + 1)
  goes node new_places new_awaits says takes_it places_new awaits_new =
      let may = taken nodes node (subst (λ (a : Awaited). takes (places_behind 1 nodes) a node ≡ true) so_far.awaited_is (subst (λ (n : ℕ). takes n awaits node ≡ true) so_far.places_are takes_it)) in
      record {
        read = so_far.read ∙ ap (λ (s : MaybeEnded). statements_for nodes ++ s ∷ map (part_said source) later) says.is
            ∙ sym (append_assoc (statements_for nodes) (ended (statement_of node) ∷ []) (map (part_said source) later))
            ∙ ap (λ (l : List MaybeEnded). l ++ map (part_said source) later) (sym (statements-more nodes node));
        stand = every-more nodes node so_far.stand says.stands;
        clear = rw (statements-more nodes node)
            (none_more IsStrange (statements_for nodes) (ended (statement_of node)) so_far.clear
            (λ strange. strange (record {
              nodes = nodes;
              node = node;
              say = record { are = refl; stand = so_far.stand };
              says = record { is = refl; stands = says.stands };
              place = may.0;
              order = may.1;
            })));
        follow = follow-more [] nodes node so_far.follow may.0 may.1;
        places_are = places_new ∙ ap (λ (n : ℕ). n - 1 + inputs node) so_far.places_are ∙ sym (places-append 1 nodes (node ∷ []));
        awaited_is = awaits_new ∙ sym (awaited-more nodes node);
        tokens = so_far.tokens.1;
        number_is = omega (arith, so_far.number_is, length_push nodes node);
        few = omega (arith, so_far.few);
        few_places = omega (arith, places_new, few_inputs node, so_far.few_places);
      }

module _ (source : List ℕ) (nodes : List Step) (places : ℕ) (awaits : Awaited) (number : ℕ) (so_far : SoFar source nodes [] places awaits number) where
  all_said : statements_in source ≡ statements_for nodes
  all_said = so_far.read ∙ append-nil (statements_for nodes)

  say_all : SayNodes (statements_in source) nodes
  say_all = record { are = all_said; stand = so_far.stand }

  clear_all : NoneHas IsStrange (statements_in source)
  clear_all = subst (NoneHas IsStrange) (sym all_said) so_far.clear

  pub ends_early : (places ≡ 0 → ⊥) → IsStrangeAt (statements_in source) number
  ends_early some =
      let size = ap (λ (l : List MaybeEnded). length l) all_said in
      inr ((
        record { clear = clear_all; nodes = nodes; say = say_all; place = omega (arith, so_far.places_are, some) },
        omega (arith, so_far.number_is, size, length-map nodes statement_of, length-map (map statement_of nodes) ended),
      ))

  pub is_whole : places ≡ 0 → SaysWhole source nodes × (length nodes ≤ 1048576)
  is_whole none = (record { say = say_all; whole = record { follow = so_far.follow; none_left = sym so_far.places_are ∙ none } }, omega (arith, so_far.number_is, so_far.few))
