-- A comment before a layout makes no difference.
use Rattle.std.proofs.Common.{◌≡◌, ℕ, ◌+◌, List, [], ◌∷◌, length, drop, None, refl}
use Rattle.std.specs.List.{AllPass}
use Rattle.sb_text.specs.Front.{in_comment}
use Rattle.sb_text.specs.Reading.{IsGap, Reads}
use Rattle.sb_text.proofs.Laws.{one_reading}
use Rattle.spelling.specs.Lexemes.{Lexeme, IsStatements, statements_in}
use Rattle.star_model.specs.Every.{Every}
use Rattle.spelling.specs.Layout.{layout, IsLexeme, commented}
use Rattle.spelling.proofs.LayoutLaws.{lay, behind}

pub layout_behind_comment : (line : List ℕ) (statements : List (List Lexeme)) → AllPass in_comment line → Every (Every IsLexeme) statements → IsStatements (commented line (layout statements)) statements
unfolding statements_in
layout_behind_comment line statements none all =
    let whole = commented line (layout statements) in
    let front = 35 ∷ line in
    let feed : drop (0 + length front) whole ≡ 10 ∷ layout statements = behind whole 0 front (10 ∷ layout statements) refl in
    let place : drop ((0 + length front) + 1) whole ≡ layout statements = behind whole (0 + length front) (10 ∷ []) (layout statements) feed in
    let l = lay statements whole ((0 + length front) + 1) all place in
    let reads = Reads.gap front (10 ∷ layout statements) (IsGap.comment line refl none refl) (Reads.gap (10 ∷ []) (layout statements) (IsGap.blank 10 refl refl) l.reads) in
    let read = one_reading whole l.tokens None reads in
    record { all_tokens = rw read refl; are = rw read l.says }
