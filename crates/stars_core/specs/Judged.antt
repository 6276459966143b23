-- What is answered of texts that come from anywhere.
use Rattle.std.specs.Prelude.{ℕ, List, [], ◌++◌, Result, Ok, Err, string_bytes}
use Rattle.stars_core.specs.declared.command.Command.{Command}
use Rattle.stars_core.specs.declared.refusal.TextKind.{TextKind}
use Rattle.stars_core.specs.declared.refusal.TextKind.TheVariants.{Rules, Catalogue, Query, Derivation}
use Rattle.stars_core.specs.declared.refusal.Refusal.{Refusal}
use Rattle.stars_core.specs.declared.refusal.Refusal.TheVariants.{Usage, Unread, Refused, Table, NotDerived, Memory}
use Rattle.stars_core.specs.declared.answer.Answer.{Answer}
use Rattle.stars_core.specs.declared.case.Case.{Case}
use Rattle.stars_core.specs.Given.{Given}
use Rattle.stars_core.specs.Faults.{StopsAt, PassAll}
use Rattle.stars_core.specs.Saying.{SaysCase, IsAnswer, IsDenied, three}

-- the place of the text of a kind among those of a command
abbrev pub place_of : TextKind → ℕ
place_of Rules = 0
place_of Catalogue = 1
place_of Query = 2
place_of Derivation = 3

-- the first of the texts that is stopped, or what the command denies of texts that are accepted
abbrev pub NotAnswered : Command → List Given → Refusal → Type 0
NotAnswered command given (Refused kind line) = StopsAt [] given (place_of kind) (string_bytes line)
NotAnswered command given (NotDerived line) = PassAll [] given × IsDenied command given (string_bytes line)
NotAnswered command given Memory = Unit {0}
NotAnswered command given Usage = ⊥
NotAnswered command given (Unread line) = ⊥
NotAnswered command given (Table line) = ⊥

-- the command's answer of the texts, or the first of their faults
abbrev pub AnswersOf : Command → List Given → Result Answer Refusal → Type 0
AnswersOf command given (Ok answer) = PassAll [] given × IsAnswer command given answer.ending answer.text.items
AnswersOf command given (Err refusal) = NotAnswered command given refusal

-- what three texts say, or the first of their faults, whatever stands behind them
abbrev pub CaseOf : List ℕ → List ℕ → List ℕ → Result Case Refusal → Type 0
CaseOf r c q (Ok case) = PassAll [] (three r c q) × SaysCase r c q case.rules case.query
CaseOf r c q (Err refusal) = (command : Command) (later : List Given) → NotAnswered command (three r c q ++ later) refusal
