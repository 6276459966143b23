-- Streams of well-kinded expressions have the quantifiers of bound streams.
use Rattle.std.proofs.Common.{◌≡◌, ℕ, zero, suc, Bool, true, false, List, [], ◌∷◌, map, refl}
use Rattle.std.specs.Prelude.{Option, Some, None, slice_index_or}
use Rattle.std.specs.List.{list_all}
use Rattle.star_model.specs.Kinds.{kind_of, kind_of_value, given, asks}
use Rattle.star_model.specs.Meaning.{meaning, on_sets, as_stream}
use Rattle.star_model.specs.Sets.{union, minus, meet}
use Rattle.star_model.specs.ValueCases.{WithOrder, WithSite, WithTemp, WithPath, Tables, Inside, Crossing, Between, Equalities, Indexable, Columns, Keys, Home, Union, Minus, Meet}
use Rattle.star_model.specs.declared.rules.ValueExpr.TheVariants.{Variable, All, NoPreds, NoCols, OrderBy, QuerySite}
use Rattle.star_model.specs.declared.rules.Kind.{Kind}
use Rattle.star_model.specs.declared.rules.Kind.TheVariants as kind
use Rattle.star_model.specs.declared.rules.ValueExpr.{ValueExpr}
use Rattle.star_model.specs.declared.query.Query.{Query}
use Rattle.star_model.specs.declared.values.RuleValue.{RuleValue}
use Rattle.star_model.specs.declared.values.RuleValue.TheVariants as is
use Rattle.star_model.proofs.BoolLaws.{both}
use Rattle.star_model.proofs.KindLaws.{means}
use Rattle.star_model.specs.Streams.{tables_pass}

was_asked : (c : Bool) (k l : Kind) → given c k ≡ Some l → c ≡ true
was_asked true k l h = refl
was_asked false k l h = cc

is_stream : (o : Option Kind) → asks kind.Stream o ≡ true → o ≡ Some kind.Stream
is_stream (Some kind.Stream) h = refl
is_stream None h = cc
is_stream (Some kind.Quants) h = cc
is_stream (Some kind.Preds) h = cc
is_stream (Some kind.Cols) h = cc
is_stream (Some kind.Site) h = cc
is_stream (Some kind.Index) h = cc

module _ (test : ℕ → Bool) where
  bound : (b : List RuleValue) (n : ℕ) → list_all (tables_pass test) b ≡ true → tables_pass test (slice_index_or b n (is.Quants 0)) ≡ true
  bound [] n h = refl
  bound (v ∷ b) zero h = (both (tables_pass test v) (list_all (tables_pass test) b) h).0
  bound (v ∷ b) (suc n) h = bound b n (both (tables_pass test v) (list_all (tables_pass test) b) h).1

  of_stream : (v : RuleValue) → kind_of_value v ≡ kind.Stream → tables_pass test v ≡ true → test (as_stream v).tables ≡ true
  of_stream (is.Stream t) e h = h
  of_stream (is.Quants s) e h = cc
  of_stream (is.Preds s) e h = cc
  of_stream (is.Cols c) e h = cc
  of_stream (is.Site s) e h = cc
  of_stream (is.Index n) e h = cc

  no_stream : (f : ℕ → ℕ → ℕ) (v w : RuleValue) → tables_pass test (on_sets f v w) ≡ true
  no_stream f (is.Stream t) w = refl
  no_stream f (is.Quants s) w = refl
  no_stream f (is.Preds s) w = refl
  no_stream f (is.Cols c) w = refl
  no_stream f (is.Site s) w = refl
  no_stream f (is.Index n) w = refl

module _ (q : Query) (test : ℕ → Bool) where
  still_passes : (b : List RuleValue) (t : ValueExpr) → kind_of (map kind_of_value b) t ≡ Some kind.Stream → tables_pass test (meaning q b t) ≡ true → test (as_stream (meaning q b t)).tables ≡ true
  still_passes b t e h = of_stream test (meaning q b t) (means q b t kind.Stream e) h

  pub streams_pass : (b : List RuleValue) (e : ValueExpr) (k : Kind) → kind_of (map kind_of_value b) e ≡ Some k → list_all (tables_pass test) b ≡ true → tables_pass test (meaning q b e) ≡ true
  unfolding kind_of meaning
  streams_pass b (Variable name place) k h all = bound test b place all
  streams_pass b (WithOrder t c) k h all = let s = is_stream _ (both _ _ (was_asked _ _ _ h)).0 in still_passes b t s (streams_pass b t kind.Stream s all)
  streams_pass b (WithSite t c) k h all = let s = is_stream _ (both _ _ (was_asked _ _ _ h)).0 in still_passes b t s (streams_pass b t kind.Stream s all)
  streams_pass b (WithTemp t) k h all = let s = is_stream _ (was_asked _ _ _ h) in still_passes b t s (streams_pass b t kind.Stream s all)
  streams_pass b (WithPath t c) k h all = let s = is_stream _ (both _ _ (was_asked _ _ _ h)).0 in still_passes b t s (streams_pass b t kind.Stream s all)
  streams_pass b (Tables t) k h all = refl
  streams_pass b All k h all = refl
  streams_pass b NoPreds k h all = refl
  streams_pass b (Inside s) k h all = refl
  streams_pass b (Crossing s) k h all = refl
  streams_pass b (Between s t) k h all = refl
  streams_pass b (Equalities p) k h all = refl
  streams_pass b (Indexable t x p) k h all = refl
  streams_pass b NoCols k h all = refl
  streams_pass b OrderBy k h all = refl
  streams_pass b (Columns t x) k h all = refl
  streams_pass b (Keys p s) k h all = refl
  streams_pass b (Home t) k h all = refl
  streams_pass b QuerySite k h all = refl
  streams_pass b (Union v w) k h all = no_stream test union (meaning q b v) (meaning q b w)
  streams_pass b (Minus v w) k h all = no_stream test minus (meaning q b v) (meaning q b w)
  streams_pass b (Meet v w) k h all = no_stream test meet (meaning q b v) (meaning q b w)

  pub stream_passes : (b : List RuleValue) (e : ValueExpr) → kind_of (map kind_of_value b) e ≡ Some kind.Stream → list_all (tables_pass test) b ≡ true
      → test (as_stream (meaning q b e)).tables ≡ true
  stream_passes b e h all = still_passes b e h (streams_pass b e kind.Stream h all)
