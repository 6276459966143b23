-- The keys that a walk over predicates has yet to find.
use Rattle.std.proofs.Common.{◌≡◌, ℕ, ◌+◌, ◌<◌, ◌≤◌, Bool, true, false, List, [], ◌∷◌, ◌++◌, length, drop, refl, ap, ◌∙◌, get_or, if◌then◌else◌}
use Rattle.std.specs.Prelude.{Option, Some, None}
use Rattle.std.specs.List.{filter_map, find, cons_option}
use Rattle.std.specs.Option.{option_to_list}
use Rattle.std.proofs.lemmas.List.{append_assoc, drop_more}
use Rattle.star_model.specs.Sets.{has}
use Rattle.star_model.specs.Predicates.{those_in, columns_of}
use Rattle.star_model.specs.declared.columns.Col.{Col}
use Rattle.star_model.specs.declared.query.Pred.{Pred}

abbrev pub key_in : ℕ → Pred → Option Col
key_in tables p = find (λ c. has tables c.quant.0) (columns_of p)

-- the keys of those members of the set that are numbered n or more
abbrev pub keys_from : ℕ → ℕ → List Pred → ℕ → List Col
keys_from set tables preds n = filter_map (key_in tables) (those_in set n (drop n preds))

first_key : (o : Option Col) (more : List Col) → cons_option o more ≡ option_to_list o ++ more
first_key None more = refl
first_key (Some c) more = refl

pub keys_more : (set tables : ℕ) (preds : List Pred) (n : ℕ) (d : Pred) → n < length preds → has set n ≡ true
    → keys_from set tables preds n ≡ option_to_list (key_in tables (get_or preds n d)) ++ keys_from set tables preds (n + 1)
keys_more set tables preds n d l h =
    ap (λ ps. filter_map (key_in tables) (those_in set n ps)) (drop_more preds n d l)
    ∙ ap (λ b. filter_map (key_in tables) (if b then get_or preds n d ∷ those_in set (n + 1) (drop (n + 1) preds) else those_in set (n + 1) (drop (n + 1) preds))) h
    ∙ first_key (key_in tables (get_or preds n d)) (keys_from set tables preds (n + 1))

pub keys_same : (set tables : ℕ) (preds : List Pred) (n : ℕ) (d : Pred) → n < length preds → has set n ≡ false
    → keys_from set tables preds n ≡ keys_from set tables preds (n + 1)
keys_same set tables preds n d l h =
    ap (λ ps. filter_map (key_in tables) (those_in set n ps)) (drop_more preds n d l)
    ∙ ap (λ b. filter_map (key_in tables) (if b then get_or preds n d ∷ those_in set (n + 1) (drop (n + 1) preds) else those_in set (n + 1) (drop (n + 1) preds))) h

pub ruleset key_rules = (keys_more, keys_same, append_assoc)
