-- Reading an item, and one more behind each separator, from the front of a list of lexemes.
use Rattle.std.specs.Prelude.{ℕ, zero, suc, ◌+◌, List, [], ◌∷◌, ◌++◌, length, None}
use Rattle.spelling.specs.Reading.{Reader, ◌>>=◌, pure, either}

-- behind those that are done, at most so many
unfoldable pub series_behind : {A : Type 0} → Reader A → Reader (Unit {0}) → ℕ → List A → Reader (List A)
series_behind item separator zero done lexemes = None
series_behind item separator (suc n) done lexemes =
    (item >>= λ x. either separator (λ _. series_behind item separator n (done ++ x ∷ [])) (pure (done ++ x ∷ []))) lexemes

-- as many as there are
abbrev pub series : {A : Type 0} → Reader A → Reader (Unit {0}) → Reader (List A)
series item separator lexemes = series_behind item separator (length lexemes + 1) [] lexemes
