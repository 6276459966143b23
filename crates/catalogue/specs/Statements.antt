-- What the reading of statements answers.
use Rattle.std.specs.Prelude.{◌≡◌, ℕ, List, Result, Ok, Err, map}
use Rattle.spelling.specs.Lexemes.{MaybeEnded, ended}
use Rattle.spelling.specs.Syntax.{IsUnderstood, IsStrangeAt}
use Rattle.catalogue.specs.Catalogues.{HasColumns, catalogue_lexemes, SpellsCatalogueStatement}
use Rattle.catalogue.specs.declared.words.StatementWords.{StatementWords}
use Rattle.spelling.specs.declared.unread.Unread.{Unread}
use Rattle.spelling.specs.declared.unread.Unread.TheVariants.{Strange, Memory}
use Rattle.catalogue.specs.declared.fault.CatFault.{CatFault}
use Rattle.catalogue.specs.declared.fault.CatFault.TheVariants as fault
use Rattle.catalogue.specs.Words.{said}
use Rattle.catalogue.specs.Faults.{SaysStatements}

-- what the statement says, or that it isn't understood
abbrev pub StatementRead : MaybeEnded → Result StatementWords Unread → Type 0
StatementRead statement (Ok words) = (statement ≡ ended (catalogue_lexemes (said words))) × HasColumns (said words)
StatementRead statement (Err Strange) = IsUnderstood SpellsCatalogueStatement statement → ⊥
StatementRead statement (Err Memory) = Unit {0}

-- what the statements say, or the first that isn't understood
abbrev pub StatementsRead : List ℕ → Result (List StatementWords) CatFault → Type 0
StatementsRead text (Ok list) = SaysStatements text (map said list)
StatementsRead text (Err (fault.Syntax k)) = IsStrangeAt SpellsCatalogueStatement text k
StatementsRead text (Err fault.Memory) = Unit {0}
StatementsRead text (Err _) = ⊥
