-- What the judgement of statements that are understood answers.
use Rattle.std.specs.Prelude.{List, Result, Ok, Err}
use Rattle.sb_text.specs.declared.token.TextFault.{TextFault}
use Rattle.sb_text.specs.declared.token.TextFault.TheVariants as text
use Rattle.spelling.specs.Firsts.{FirstAt, NoneHas}
use Rattle.catalogue.specs.Catalogues.{CatalogueStatement}
use Rattle.catalogue.specs.declared.fault.CatFault.{CatFault}
use Rattle.catalogue.specs.declared.fault.CatFault.TheVariants.{Lexical, TooDeep, Unknown, Twice, Limit, Memory}
use Rattle.catalogue.specs.Defined.{NamesUnknown, DefinesTwice}
use Rattle.catalogue.specs.Beyond.{IsBeyond}
use Rattle.catalogue.specs.Faults.{IsLimitAt}

-- a fault of the tokens, as a fault of a catalogue
abbrev pub of_tokens : TextFault → CatFault
of_tokens (text.Lexical offset) = Lexical offset
of_tokens (text.TooDeep k) = TooDeep k
of_tokens text.Memory = Memory

-- no statement names what isn't defined, defines a name twice or goes beyond a limit
pub record AreClear (statements : List CatalogueStatement) : Type 0 where
  pub known : NoneHas NamesUnknown statements
  pub once : NoneHas DefinesTwice statements
  pub within : NoneHas IsBeyond statements

-- they are clear, or this is the first fault of them
abbrev pub StatementsJudged : List CatalogueStatement → Result (Unit {0}) CatFault → Type 0
StatementsJudged statements (Ok done) = AreClear statements
StatementsJudged statements (Err (Unknown k)) = FirstAt NamesUnknown statements k
StatementsJudged statements (Err (Twice k)) = NoneHas NamesUnknown statements × FirstAt DefinesTwice statements k
StatementsJudged statements (Err (Limit k what)) = NoneHas NamesUnknown statements × NoneHas DefinesTwice statements × IsLimitAt statements k what
StatementsJudged statements (Err Memory) = Unit {0}
StatementsJudged statements (Err _) = ⊥
