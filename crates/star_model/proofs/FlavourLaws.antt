-- Operators are written with words of their own.
use Rattle.std.proofs.Common.{◌≡◌, Some, refl, ap, sym, ◌∙◌}
use Rattle.std.specs.Prelude.{Option, unwrap_or}
use Rattle.star_model.specs.FlavourWords.{flavour_word, flavour_of}
use Rattle.star_model.specs.declared.rules.Flavour.{Flavour}
use Rattle.star_model.specs.declared.rules.Flavour.TheVariants as flavour

named : (f : Flavour) → flavour_of (flavour_word f) ≡ Some f
unfolding flavour_of
named flavour.AccessHeap = refl
named flavour.AccessIndex = refl
named flavour.Get = refl
named flavour.Filter = refl
named flavour.Sort = refl
named flavour.Store = refl
named flavour.Ship = refl
named flavour.Probe = refl
named flavour.JoinNl = refl
named flavour.JoinMerge = refl
named flavour.JoinHash = refl
named flavour.Intersect = refl

pub same_flavour_word : (f g : Flavour) → flavour_word f ≡ flavour_word g → f ≡ g
same_flavour_word f g e =
    ap (λ (o : Option Flavour). unwrap_or o g) (sym (named f) ∙ ap flavour_of e ∙ named g)
