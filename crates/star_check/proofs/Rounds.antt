-- Heights and weights, one STAR deeper in each round.
use Prim.Native.Nat.{zero, suc}
use Rattle.std.proofs.Common.{◌≡◌, ℕ, ◌+◌, ◌-◌, ◌<◌, ◌≤◌, inl, inr, nat_lt, max, Bool, true, false, if◌then◌else◌, List, [], ◌∷◌, length, map, get_or, replicate, refl, ap, sym, ◌∙◌, subst, arith}
use Rattle.std.specs.Prelude.{Option, Some, None, is_none, slice_get, slice_index, position}
use Rattle.std.specs.List.{fold, list_any, All}
use Rattle.std.specs.Option.{option_map, option_map_or}
use Rattle.std.proofs.lemmas.List.{get_or_past}
use Rattle.std.proofs.lemmas.List.Elements.{All-map}
use Rattle.std.proofs.lemmas.Option.{slice_get-map, slice_get-get_or, get_or_from_slice_get}
use Rattle.std.proofs.Math.Numerals.{suc-eq-add-one}
use Rattle.std.proofs.lemmas.Bool.{false≢true, or_parts, cases_lt}
use Rattle.star_model.specs.Numbers.{cut_sum}
use Rattle.star_model.specs.Stars.{star_named}
use Rattle.star_model.specs.Vectors.{same_numbers}
use Rattle.star_model.specs.Accepted.{references_in, references_of, height_within, height_of, weight_within, weight_of}
use Rattle.star_model.specs.declared.rules.StarDef.{StarDef}
use Rattle.star_model.specs.declared.rules.ValueExpr.{ValueExpr}
use Rattle.star_model.specs.declared.rules.Flavour.{Flavour}
use Rattle.star_model.specs.declared.rules.PlanExpr.{PlanExpr}
use Rattle.star_model.specs.declared.rules.PlanExpr.TheVariants as made
use Rattle.star_model.specs.AcceptedEquations.{references_in-Binary}
use Rattle.std.proofs.lemmas.List.Sums.{fold-append}
use Rattle.star_model.specs.declared.rules.RuleFile.{RuleFile}
use Rattle.star_check.specs.Owning.{NamesAreOwn, NamesAreKnown}
use Rattle.star_check.specs.Sizes.{size_among, greater, next_height, next_weight, found_over}
use Rattle.star_check.specs.declared.found.Found.{Found}
use Rattle.star_check.specs.Findings.{IsOwn}
use Rattle.star_check.proofs.Places.{find_passes, looked_up}
use Rattle.star_model.proofs.Laws.{same_are}

map_agree : {A B : Type 0} (f g : A → B) (xs : List A) → ((i : ℕ) (x : A) → slice_get xs i ≡ Some x → f x ≡ g x) → map f xs ≡ map g xs
map_agree f g [] same = refl
map_agree f g (x ∷ xs) same = (λ i. same 0 x refl i ∷ map_agree f g xs (λ n y at. same (suc n) y at) i)

-- what is found of the STAR of a name
named : (rules : RuleFile) (size : List ℕ → ℕ) (name : List ℕ) (s : StarDef) → star_named rules name ≡ Some s
    → size_among rules.stars (map (λ t. size t.name) rules.stars) name ≡ size name
named rules size name s found =
    looked_up (λ t. same_numbers t.name name) (λ t. size t.name) rules.stars ∙ ap (λ o. option_map_or (λ t. size t.name) o 0) found
    ∙ ap size (same_are s.name name (find_passes (λ t. same_numbers t.name name) rules.stars s found))

unnamed : (rules : RuleFile) (size : List ℕ → ℕ) (name : List ℕ) → star_named rules name ≡ None → size_among rules.stars (map (λ t. size t.name) rules.stars) name ≡ 0
unnamed rules size name none =
    looked_up (λ t. same_numbers t.name name) (λ t. size t.name) rules.stars ∙ ap (λ o. option_map_or (λ t. size t.name) o 0) none

-- ---- weights

no_weight : (rules : RuleFile) (n : ℕ) (name : List ℕ) → star_named rules name ≡ None → weight_within rules n name ≡ 0
unfolding weight_within
no_weight rules zero name none = refl
no_weight rules (suc n) name none =
    ap (λ o. option_map_or (λ s. fold (λ w a. cut_sum w (fold (λ x r. cut_sum x (weight_within rules n r.0)) 1 (references_in a.body))) 0 s.alternatives) o 0) none

weight_among : (rules : RuleFile) (n : ℕ) (name : List ℕ) → size_among rules.stars (map (λ t. weight_within rules n t.name) rules.stars) name ≡ weight_within rules n name
weight_among rules n name = from (star_named rules name) refl
  where
    from : (o : Option StarDef) → star_named rules name ≡ o → size_among rules.stars (map (λ t. weight_within rules n t.name) rules.stars) name ≡ weight_within rules n name
    from None none = unnamed rules (weight_within rules n) name none ∙ sym (no_weight rules n name none)
    from (Some s) found = named rules (weight_within rules n) name s found

weight_next : (rules : RuleFile) (n : ℕ) (s : StarDef) → star_named rules s.name ≡ Some s
    → next_weight rules.stars (map (λ t. weight_within rules n t.name) rules.stars) s ≡ weight_within rules (suc n) s.name
unfolding weight_within
weight_next rules n s own =
    (λ i. fold (λ w a. cut_sum w (fold (λ x r. cut_sum x (weight_among rules n r.0 i)) 1 (references_in a.body))) 0 s.alternatives)
    ∙ sym (ap (λ o. option_map_or (λ t. fold (λ w a. cut_sum w (fold (λ x r. cut_sum x (weight_within rules n r.0)) 1 (references_in a.body))) 0 t.alternatives) o 0) own)

pub weight_round : (rules : RuleFile) (stars : List StarDef) (n : ℕ) (weights next : List ℕ) → NamesAreOwn rules → stars ≡ rules.stars
    → weights ≡ map (λ s. weight_within rules n s.name) stars → next ≡ map (next_weight stars weights) stars → next ≡ map (λ s. weight_within rules (n + 1) s.name) stars
weight_round rules stars n weights next own same before after =
    after ∙ (λ i. map (next_weight (same i) ((before ∙ ap (map (λ s. weight_within rules n s.name)) same) i)) (same i))
    ∙ map_agree
    (next_weight rules.stars (map (λ t. weight_within rules n t.name) rules.stars))
    (λ s. weight_within rules (n + 1) s.name)
    rules.stars
    (λ i s at. weight_next rules n s (own.own i s at) ∙ ap (λ m. weight_within rules m s.name) (suc-eq-add-one n))
    ∙ ap (map (λ s. weight_within rules (n + 1) s.name)) (sym same)

zeros : (stars : List StarDef) → replicate {A = ℕ} (length stars) 0 ≡ map (λ s. 0) stars
zeros [] = refl
zeros (s ∷ stars) = ap (λ ns. 0 ∷ ns) (zeros stars)

pub first_weights : (rules : RuleFile) (stars : List StarDef) → replicate {A = ℕ} (length stars) 0 ≡ map (λ s. weight_within rules 0 s.name) stars
unfolding weight_within
first_weights rules stars = zeros stars

-- ---- heights

height_among : (rules : RuleFile) (n : ℕ) (name : List ℕ) → is_none (star_named rules name) ≡ false
    → size_among rules.stars (map (λ t. height_within rules n t.name) rules.stars) name ≡ height_within rules n name
height_among rules n name known = from (star_named rules name) refl known
  where
    from : (o : Option StarDef) → star_named rules name ≡ o → is_none o ≡ false → size_among rules.stars (map (λ t. height_within rules n t.name) rules.stars) name ≡ height_within rules n name
    from None none unknown = absurd (false≢true (sym unknown))
    from (Some s) found is = named rules (height_within rules n) name s found

-- the folds agree where all is known
fold_known : (rules : RuleFile) (n : ℕ) (rs : List (List ℕ × List ValueExpr)) (h : ℕ) → list_any (λ r. is_none (star_named rules r.0)) rs ≡ false
    → fold (λ h r. greater rules.stars (map (λ t. height_within rules n t.name) rules.stars) h r.0) h rs ≡ fold (λ h r. max h (height_within rules n r.0)) h rs
unfolding greater
fold_known rules n [] h known = refl
fold_known rules n (r ∷ rs) h known =
    let parts = or_parts (is_none (star_named rules r.0)) (list_any (λ r. is_none (star_named rules r.0)) rs) known in
    ap (λ k. fold (λ h r. max h (size_among rules.stars (map (λ t. height_within rules n t.name) rules.stars) r.0)) (max h k) rs) (height_among rules n r.0 parts.0)
    ∙ fold_known rules n rs (max h (height_within rules n r.0)) parts.1

height_next : (rules : RuleFile) (n : ℕ) (s : StarDef) → star_named rules s.name ≡ Some s → list_any (λ r. is_none (star_named rules r.0)) (references_of s) ≡ false
    → next_height rules.stars (map (λ t. height_within rules n t.name) rules.stars) s ≡ height_within rules (suc n) s.name
unfolding height_within
height_next rules n s own known =
    ap (λ h. 1 + h) (fold_known rules n (references_of s) 0 known)
    ∙ sym (ap (λ o. 1 + option_map_or (λ t. fold (λ h r. max h (height_within rules n r.0)) 0 (references_of t)) o 0) own)

pub height_round : (rules : RuleFile) (stars : List StarDef) (n : ℕ) (heights next : List ℕ) → NamesAreOwn rules → NamesAreKnown rules → stars ≡ rules.stars
    → heights ≡ map (λ s. height_within rules n s.name) stars → next ≡ map (next_height stars heights) stars → next ≡ map (λ s. height_within rules (n + 1) s.name) stars
height_round rules stars n heights next own known same before after =
    after ∙ (λ i. map (next_height (same i) ((before ∙ ap (map (λ s. height_within rules n s.name)) same) i)) (same i))
    ∙ map_agree
    (next_height rules.stars (map (λ t. height_within rules n t.name) rules.stars))
    (λ s. height_within rules (n + 1) s.name)
    rules.stars
    (λ i s at. height_next rules n s (own.own i s at) (known.known i s at) ∙ ap (λ m. height_within rules m s.name) (suc-eq-add-one n))
    ∙ ap (map (λ s. height_within rules (n + 1) s.name)) (sym same)

pub first_heights : (rules : RuleFile) (stars : List StarDef) → replicate {A = ℕ} (length stars) 0 ≡ map (λ s. height_within rules 0 s.name) stars
unfolding height_within
first_heights rules stars = zeros stars

-- ---- a round that changes nothing is the last that matters

settled : (step : List ℕ → List ℕ) (sizes : ℕ → List ℕ) → ((n : ℕ) → step (sizes n) ≡ sizes (n + 1)) → (n k : ℕ) → sizes (n + 1) ≡ sizes n → sizes (n + k) ≡ sizes n
settled step sizes goes n zero same = ap sizes (let e : n + 0 ≡ n = omega arith in e)
settled step sizes goes n (suc k) same =
    ap sizes (let e : n + suc k ≡ n + k + 1 = omega arith in e) ∙ sym (goes (n + k)) ∙ ap step (settled step sizes goes n k same) ∙ goes n ∙ same

last_round : (step : List ℕ → List ℕ) (sizes : ℕ → List ℕ) → ((n : ℕ) → step (sizes n) ≡ sizes (n + 1)) → (n last : ℕ) → sizes (n + 1) ≡ sizes n → n ≤ last → sizes n ≡ sizes last
last_round step sizes goes n last same below =
    sym (settled step sizes goes n (last - n) same) ∙ ap sizes (let e : n + (last - n) ≡ last = omega (arith, below) in e)

pub heights_settled : (rules : RuleFile) (stars : List StarDef) (n : ℕ) (heights next : List ℕ) → NamesAreOwn rules → NamesAreKnown rules → stars ≡ rules.stars → n < length stars
    → heights ≡ map (λ s. height_within rules n s.name) stars → next ≡ map (next_height stars heights) stars → same_numbers next heights ≡ true
    → next ≡ map (height_of rules) rules.stars
heights_settled rules stars n heights next own known same below before after equal =
    let sizes : ℕ → List ℕ = λ m. map (λ s. height_within rules m s.name) rules.stars in
    let step : List ℕ → List ℕ = λ hs. map (next_height rules.stars hs) rules.stars in
    let goes : (m : ℕ) → step (sizes m) ≡ sizes (m + 1) = λ m. height_round rules rules.stars m (sizes m) (step (sizes m)) own known refl refl refl in
    let here : heights ≡ sizes n = before ∙ ap (map (λ s. height_within rules n s.name)) same in
    let after_it : next ≡ sizes (n + 1) = height_round rules stars n heights next own known same before after ∙ ap (map (λ s. height_within rules (n + 1) s.name)) same in
    let stays : sizes (n + 1) ≡ sizes n = sym after_it ∙ same_are next heights equal ∙ here in
    after_it ∙ stays ∙ last_round step sizes goes n (length rules.stars) stays (let long = ap length same in omega (arith, below, long))

pub weights_settled : (rules : RuleFile) (stars : List StarDef) (n : ℕ) (weights next : List ℕ) → NamesAreOwn rules → stars ≡ rules.stars → n < length stars
    → weights ≡ map (λ s. weight_within rules n s.name) stars → next ≡ map (next_weight stars weights) stars → same_numbers next weights ≡ true
    → next ≡ map (weight_of rules) rules.stars
weights_settled rules stars n weights next own same below before after equal =
    let sizes : ℕ → List ℕ = λ m. map (λ s. weight_within rules m s.name) rules.stars in
    let step : List ℕ → List ℕ = λ ws. map (next_weight rules.stars ws) rules.stars in
    let goes : (m : ℕ) → step (sizes m) ≡ sizes (m + 1) = λ m. weight_round rules rules.stars m (sizes m) (step (sizes m)) own refl refl refl in
    let here : weights ≡ sizes n = before ∙ ap (map (λ s. weight_within rules n s.name)) same in
    let after_it : next ≡ sizes (n + 1) = weight_round rules stars n weights next own same before after ∙ ap (map (λ s. weight_within rules (n + 1) s.name)) same in
    let stays : sizes (n + 1) ≡ sizes n = sym after_it ∙ same_are next weights equal ∙ here in
    after_it ∙ stays ∙ last_round step sizes goes n (length rules.stars) stays (let long = ap length same in omega (arith, below, long))

-- a height is at most the depth at which it is seen
low_fold : (f : (List ℕ × List ValueExpr) → ℕ) (n : ℕ) → ((r : List ℕ × List ValueExpr) → f r ≤ n) → (rs : List (List ℕ × List ValueExpr)) (h : ℕ) → h ≤ n
    → fold (λ h r. max h (f r)) h rs ≤ n
low_fold f n low [] h below = below
low_fold f n low (r ∷ rs) h below = low_fold f n low rs (max h (f r)) (let l : f r ≤ n = low r in omega (arith, l, below))

low_height : (rules : RuleFile) (n : ℕ) (name : List ℕ) → height_within rules n name ≤ n
unfolding height_within
low_height rules zero name = omega arith
low_height rules (suc n) name = from (low_height rules n) (star_named rules name)
  where
    from : ((name : List ℕ) → height_within rules n name ≤ n) → (o : Option StarDef)
        → 1 + option_map_or (λ s. fold (λ h r. max h (height_within rules n r.0)) 0 (references_of s)) o 0 ≤ suc n
    from low None = omega arith
    from low (Some s) =
        let l : fold (λ h r. max h (height_within rules n r.0)) 0 (references_of s) ≤ n =
        low_fold (λ r. height_within rules n r.0) n (λ r. low r.0) (references_of s) 0 (omega arith) in
        omega (arith, l)

pub low_heights : (rules : RuleFile) (stars : List StarDef) (n : ℕ) (heights : List ℕ) → n ≤ 64 → heights ≡ map (λ s. height_within rules n s.name) stars → All (λ h. h ≤ 64) heights
low_heights rules stars n heights below is =
    subst
    (λ (hs : List ℕ). All (λ h. h ≤ 64) hs)
    (sym is)
    (All-map (λ h. h ≤ 64) (λ s. height_within rules n s.name) stars (λ k d within. let l = low_height rules n (get_or stars k d).name in omega (arith, l, below)))

low_among : (stars : List StarDef) (heights : List ℕ) (name : List ℕ) → All (λ h. h ≤ 64) heights → size_among stars heights name ≤ 64
low_among stars heights name low = from (position (λ s. same_numbers s.name name) stars)
  where
    from : (o : Option ℕ) → option_map_or (λ i. slice_index heights i) o 0 ≤ 64
    from None = omega arith
    from (Some i) =
        elim (cases_lt i (length heights)) [
          | inl within ↦ low i 0 within
          | inr past ↦ let none : get_or heights i 0 ≡ 0 = get_or_past heights i 0 past in omega (arith, none)
        ]

pub low_next : (stars : List StarDef) (heights : List ℕ) (s : StarDef) (height : ℕ) → All (λ h. h ≤ 64) heights
    → height ≡ fold (λ h r. greater stars heights h r.0) 0 (references_of s) → height ≤ 64
unfolding greater
low_next stars heights s height low is =
    let l : fold (λ h r. max h (size_among stars heights r.0)) 0 (references_of s) ≤ 64 =
    low_fold (λ r. size_among stars heights r.0) 64 (λ r. low_among stars heights r.0 low) (references_of s) 0 (omega arith) in
    omega (arith, l, is)

-- ---- sizes over a limit

pub own_over : (s : StarDef) (limit size own : ℕ) → size ≡ own
    → IsOwn (λ (t : StarDef) (f : Found ℕ). (t.statement ≡ f.statement) × (nat_lt limit own ≡ true) × (own ≡ f.what)) s (found_over limit s.statement size)
own_over s limit size own is = step (nat_lt limit size) refl
  where
    step : (b : Bool) → nat_lt limit size ≡ b
        → IsOwn
        (λ (t : StarDef) (f : Found ℕ). (t.statement ≡ f.statement) × (nat_lt limit own ≡ true) × (own ≡ f.what))
        s
        (if b then Some (record { statement = s.statement; what = size }) else None)
    step true over = ((refl, ap (nat_lt limit) (sym is) ∙ over, sym is), (λ g shows. shows.0))
    step false over = λ f shows. false≢true (sym over ∙ ap (nat_lt limit) is ∙ shows.1)

pub size_at : (size : StarDef → ℕ) (all stars : List StarDef) (sizes : List ℕ) (i default : ℕ) (s : StarDef) → sizes ≡ map size all → stars ≡ all → i < length stars
    → s ≡ get_or stars i s → get_or sizes i default ≡ size s
size_at size all stars sizes i default s are same below is =
    get_or_from_slice_get
    sizes
    i
    (size s)
    default
    (ap (λ xs. slice_get xs i) (are ∙ ap (map size) (sym same)) ∙ slice_get-map size stars i ∙ ap (option_map size) (slice_get-get_or stars i s below ∙ ap Some (sym is)))

-- a fold over the references of an operator over two plans
pub over_both : (F : ℕ → (List ℕ × List ValueExpr) → ℕ) (plan : PlanExpr) (f : Flavour) (args : List ValueExpr) (d e : PlanExpr) (first middle last : ℕ)
    → plan ≡ made.Binary f args d e → middle ≡ fold F first (references_in d) → last ≡ fold F middle (references_in e) → last ≡ fold F first (references_in plan)
over_both F plan f args d e first middle last is left right =
    right ∙ ap (λ m. fold F m (references_in e)) left ∙ sym (fold-append F first (references_in d) (references_in e)) ∙ sym (ap (fold F first) (ap references_in is ∙ references_in-Binary f args d e))
