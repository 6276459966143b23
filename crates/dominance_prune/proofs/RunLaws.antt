-- What offers to a new set leave.
use Rattle.std.proofs.Common.{◌≡◌, List, [], ◌∷◌, Bool, true, ◌⊎◌, inl, inr, sym, subst, map, arith}
use Rattle.std.specs.List.{Contains}
use Rattle.dominance_prune.proofs.Filtered.{Contains-cons_cases, Contains-head, Contains-tail}
use Rattle.dominance_prune.proofs.AntichainLaws.{IsAntichain-offered}
use Rattle.dominance_prune.proofs.OfferLaws.{Gathers-answered}
use Rattle.dominance_prune.specs.Antichains.{IsAntichain}
use Rattle.dominance_prune.specs.Gathering.{Gathers, IsFrontier}
use Rattle.dominance_prune.specs.GatheringCases.{nothing_in, Gathers-nothing, Gathers-then, Gathers-same, IsFrontier-has, IsFrontier-best}
use Rattle.dominance_prune.specs.Offers.{Run, IsOffered, Stands}
use Rattle.dominance_prune.specs.declared.plan_set.Offer.{Offer}

module _ {T : Type 0} (outranks : T → T → Bool) (reflexive : (x : T) → outranks x x ≡ true)
    (transitive : (x y z : T) → outranks x y ≡ true → outranks y z ≡ true → outranks x z ≡ true) where
  run_gathers : (offers : List (T × Offer)) (old new : List T) → Run outranks offers old new → Gathers outranks old new (IsOffered offers)
  run_gathers [] old new same = rw same (Gathers-nothing outranks (IsOffered []) old nothing_in)
  run_gathers (offer ∷ offers) old new (next, answered, rest) =
      let items = map (λ (o : T × Offer). o.0) offers in
      Gathers-same outranks (λ x. (x ≡ offer.0) ⊎ IsOffered offers x) (IsOffered (offer ∷ offers)) old new
      (λ x. elim [
        | inl same ↦ (let P : T → Type 0 = λ u. Contains (offer.0 ∷ items) u in subst P (sym same) (Contains-head offer.0 items))
        | inr later ↦ Contains-tail offer.0 items x later
      ])
      (λ x h. elim (Contains-cons_cases offer.0 items x h) [ inl same ↦ inl (sym same) | inr later ↦ inr later ])
      (Gathers-then outranks (λ x. x ≡ offer.0) (IsOffered offers) old next new (Gathers-answered outranks reflexive transitive old offer.0 next offer.1 answered)
      (run_gathers offers next new rest))

  run_apart : (offers : List (T × Offer)) (old new : List T) → Run outranks offers old new → IsAntichain outranks old → IsAntichain outranks new
  run_apart [] old new same chain = rw same chain
  run_apart (offer ∷ offers) old new (next, answered, rest) chain = run_apart offers next new rest (IsAntichain-offered outranks old offer.0 next offer.1 answered chain)

  pub run_stands : (offers : List (T × Offer)) (new : List T) → Run outranks offers [] new → Stands outranks offers new
  run_stands offers new run =
      let frontier : IsFrontier outranks (IsOffered offers) new =
      record { gathered = run_gathers offers [] new run; apart = run_apart offers [] new run (λ i j d less within. absurd (omega arith)) } in
      record {
        covered = frontier.gathered.covers;
        offered = IsFrontier-has outranks (IsOffered offers) new frontier;
        apart = frontier.apart;
        best = IsFrontier-best outranks transitive (IsOffered offers) new frontier;
      }
