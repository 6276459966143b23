-- The parts of a text's tokens are its statements.
use Rattle.std.proofs.Common.{◌≡◌, ℕ, List, [], ◌∷◌, ◌≤◌, length, map, ap, arith}
use Rattle.std.specs.List.{All}
use Rattle.std.proofs.lemmas.List.Elements.{All-tail}
use Rattle.sb_text.specs.Refusal.{AreTokens}
use Rattle.sb_text.specs.Tokens.{lexed, Lexed}
use Rattle.sb_text.specs.Statements.{Part, tokens_of, parts}
use Rattle.sb_text.specs.Reading.{IsTokenOf}
use Rattle.sb_text.specs.declared.token.Token.{Token}
use Rattle.sb_text.proofs.Laws.{tokens-lexed, tokens-parts, length-parts, length-lexed}
use Rattle.star_model.specs.Every.{Every}
use Rattle.spelling.specs.Lexemes.{statements_in}
use Rattle.spelling.specs.Cursors.{AreTokensOf, part_said, IsPartOf}

every_of : {A : Type 0} (P : A → Type 0) (xs : List A) → All P xs → Every P xs
every_of P [] all = tt
every_of P (x ∷ xs) all = (all 0 x (omega arith), every_of P xs (All-tail P x xs all))

each_of : (source : List ℕ) (list : List Part) → Every (λ part. All (IsTokenOf source) (tokens_of part)) list → Every (IsPartOf source) list
each_of source [] every = tt
each_of source (part ∷ list) every = (every_of (IsTokenOf source) part.0 every.0, each_of source list every.1)

pub own_tokens : (source : List ℕ) → AreTokensOf source (lexed source).0
own_tokens source = every_of (IsTokenOf source) (lexed source).0 (tokens-lexed source)

pub own_parts : (source : List ℕ) → Every (IsPartOf source) (parts (lexed source).0)
own_parts source = each_of source (parts (lexed source).0) (every_of (λ part. All (IsTokenOf source) (tokens_of part)) (parts (lexed source).0) (tokens-parts source))

list_is : (source : List ℕ) (tokens : List Token) → AreTokens source tokens → (lexed source).0 ≡ tokens
list_is source tokens are = ap (λ (l : Lexed). l.0) are.lexed

pub parts_said : (source : List ℕ) (tokens : List Token) → AreTokens source tokens → statements_in source ≡ map (part_said source) (parts tokens)
unfolding statements_in
parts_said source tokens are = ap (λ (l : List Token). map (part_said source) (parts l)) (list_is source tokens are)

pub parts_hold : (source : List ℕ) (tokens : List Token) → AreTokens source tokens → Every (IsPartOf source) (parts tokens)
parts_hold source tokens are = rw (← list_is source tokens are) (own_parts source)

pub parts_few : (source : List ℕ) (tokens : List Token) → AreTokens source tokens → length (parts tokens) ≤ length source
parts_few source tokens are = omega (arith, length-parts tokens, ap (λ (l : List Token). length l) (list_is source tokens are), length-lexed source)
