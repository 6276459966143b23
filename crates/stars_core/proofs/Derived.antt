-- What follows from the answer of the top call.
use Rattle.std.proofs.Common.{◌≡◌, ◌⊎◌, ◌++◌, ℕ, true, List, [], ◌∷◌, take, Option, None, Some, refl, ap, sym, ◌∙◌, subst, inl, inr, zero, suc}
use Rattle.std.specs.Prelude.{slice_get}
use Rattle.std.proofs.lemmas.List.{append-nil, append_assoc}
use Rattle.sb_outside.specs.Counts.{Rose}
use Rattle.sb_outside.specs.Shelf.{Files, ShelfState}
use Rattle.sb_outside.proofs.Laws.{fails_on}
use Rattle.sb_outside.specs.Sink.{SinkState}
use Rattle.stars_core.specs.declared.command.Command.{Command}
use Rattle.stars_core.specs.declared.command.Command.TheVariants as commands
use Rattle.stars_core.specs.declared.refusal.TextKind.{TextKind}
use Rattle.stars_core.specs.declared.refusal.TextKind.TheVariants as kinds
use Rattle.stars_core.specs.declared.status.Ending.{Ending}
use Rattle.stars_core.specs.declared.status.Ending.TheVariants as endings
use Rattle.stars_core.specs.declared.status.Status.{Status}
use Rattle.stars_core.specs.declared.status.Status.TheVariants.{Done, NoPlan, Usage, RulesRefused, CatalogueRefused, QueryRefused, TableRefused, ReadFault, WriteFault, Memory, NotDerived, DerivationRefused, SessionRefused, CertificateRefused}
use Rattle.stars_core.specs.CommandLine.{CommandLine, Request, command_of, requests_of}
use Rattle.stars_core.specs.Lines.{refused_status}
use Rattle.stars_core.specs.Given.{Given}
use Rattle.stars_core.specs.Faults.{Stops, PassAll}
use Rattle.stars_core.specs.Saying.{Saying, Says, SaysCase, AnswerText, Denied, IsDenied, text_at}
use Rattle.stars_core.specs.Shelves.{HeldAs, UnreadAt, RefusedAt}
use Rattle.stars_core.specs.Plan.{HasPlan}
use Rattle.stars_core.specs.Running.{SaysOf, CameToTables, TableUnreadAt, TableRefusedAt}
use Rattle.stars_core.specs.Composing.{IsAnswered, Puts}
use Rattle.stars_core.specs.Answers.{OfCommand, Answered, LinePut}
use Rattle.stars_core.specs.Told.{Complete, AllTold, TablesTold, Ends, RefusedExactly, StopTold}
use Rattle.star_model.specs.declared.rules.RuleFile.{RuleFile}
use Rattle.star_model.specs.declared.query.Query.{Query as QueryTree}
use Rattle.table_taking.specs.QueryTables.{file_of}
use Rattle.table_taking.specs.Taking as tables
use Rattle.table_taking.proofs.Laws.{told_not_refused}
use Rattle.stars_core.proofs.Says.{one_case, one_reading}
use Rattle.stars_core.proofs.FaultLaws.{one_stop, stopped_passes}
use Rattle.plan_choice.proofs.Laws.{some_listed}

of_command : (words : CommandLine) (command : Command) (P : Command → Type 0) → command_of words ≡ Some command → OfCommand words P → P command
of_command words command P is of = rw is at of

not_command : (words : CommandLine) (P : Command → Type 0) → command_of words ≡ None → OfCommand words P → ⊥
not_command words P is of = rw is at of

same_given : (a : Request) (files : Files) (x y : Given) → x.0 ≡ a.0 → files a.1 ≡ Some x.1 → y.0 ≡ a.0 → files a.1 ≡ Some y.1 → x ≡ y
same_given a files (k, b) (l, d) e f e' f' =
    let same : Some b ≡ Some d = sym f ∙ f' in
    let bytes : b ≡ d = cc in
    let kind : k ≡ l = e ∙ sym e' in cc

front_nil : (before : List Given) (this : Given) (line : List ℕ) → Stops (before ++ []) this line → Stops before this line
front_nil before this line stops = subst (λ (l : List Given). Stops l this line) (append-nil before) stops

-- no text is stopped where all are accepted
pub none_stops : (files : Files) (before : List Given) (requests : List Request) (given : List Given) (place : ℕ) (this : Request) (earlier : List Given) (bytes line : List ℕ)
    → HeldAs (Some files) requests given → PassAll before given
    → slice_get requests place ≡ Some this → HeldAs (Some files) (take place requests) earlier → files this.1 ≡ Some bytes → Stops (before ++ earlier) (this.0, bytes) line → ⊥
none_stops files before [] given place this earlier bytes line all pass here held told stops = absurd cc
none_stops files before (a ∷ requests) [] place this earlier bytes line all pass here held told stops = all
none_stops files before (a ∷ requests) (g ∷ given) zero this [] bytes line all pass here held told stops =
    let same : a ≡ this = cc in
    let e : g ≡ (this.0, bytes) = same_given this files g (this.0, bytes) (rw (← same) all.0) (rw (← same) all.1) refl told in
    stopped_passes before (this.0, bytes) line (front_nil before (this.0, bytes) line stops) (rw e at pass.0)
none_stops files before (a ∷ requests) (g ∷ given) zero this (x ∷ earlier) bytes line all pass here held told stops = held
none_stops files before (a ∷ requests) (g ∷ given) (suc place) this [] bytes line all pass here held told stops = held
none_stops files before (a ∷ requests) (g ∷ given) (suc place) this (x ∷ earlier) bytes line all pass here held told stops =
    let e : x ≡ g = same_given a files x g held.0 held.1 all.0 all.1 in
    let stops' : Stops ((before ++ g ∷ []) ++ earlier) (this.0, bytes) line =
    subst (λ (l : List Given). Stops l (this.0, bytes) line) (ap (λ (y : Given). before ++ (y ∷ earlier)) e ∙ sym (append_assoc before (g ∷ []) earlier)) stops
    in none_stops files (before ++ g ∷ []) requests given place this earlier bytes line all.2 pass.1 here held.2 told stops'

-- at most one text is stopped, with one line
pub one_place : (files : Files) (before : List Given) (requests : List Request) (p q : ℕ) (this that : Request) (earlier earlier' : List Given) (bytes bytes' line line' : List ℕ)
    → slice_get requests p ≡ Some this → HeldAs (Some files) (take p requests) earlier → PassAll before earlier → files this.1 ≡ Some bytes → Stops (before ++ earlier) (this.0, bytes) line
    → slice_get requests q ≡ Some that → HeldAs (Some files) (take q requests) earlier' → PassAll before earlier' → files that.1 ≡ Some bytes' → Stops (before ++ earlier') (that.0, bytes') line'
    → (this ≡ that) × (line ≡ line')
one_place files before [] p q this that e e' b b' l l' here held pass told stops here' held' pass' told' stops' = absurd cc
one_place files before (a ∷ requests) zero zero this that [] [] b b' l l' here held pass told stops here' held' pass' told' stops' =
    let same : a ≡ this = cc in
    let same' : a ≡ that = cc in
    let both : that ≡ this = sym same' ∙ same in
    let stops2 = rw both at stops' in
    let told2 = rw both at told' in
    let eq : Some b ≡ Some b' = sym told ∙ told2 in
    let bytes : b' ≡ b = cc in
    let stops3 = rw bytes at stops2 in
    (sym both, one_stop before (this.0, b) l l' (front_nil before (this.0, b) l stops) (front_nil before (this.0, b) l' stops3))
one_place files before (a ∷ requests) zero q this that (x ∷ e) e' b b' l l' here held pass told stops here' held' pass' told' stops' = absurd held
one_place files before (a ∷ requests) zero zero this that [] (x ∷ e') b b' l l' here held pass told stops here' held' pass' told' stops' = absurd held'
one_place files before (a ∷ requests) zero (suc q) this that [] [] b b' l l' here held pass told stops here' held' pass' told' stops' = absurd held'
one_place files before (a ∷ requests) zero (suc q) this that [] (x ∷ e') b b' l l' here held pass told stops here' held' pass' told' stops' =
    let same : a ≡ this = cc in
    let e : x ≡ (this.0, b) = same_given this files x (this.0, b) (rw (← same) held'.0) (rw (← same) held'.1) refl told in
    absurd (stopped_passes before (this.0, b) l (front_nil before (this.0, b) l stops) (rw e at pass'.0))
one_place files before (a ∷ requests) (suc p) q this that [] e' b b' l l' here held pass told stops here' held' pass' told' stops' = absurd held
one_place files before (a ∷ requests) (suc p) zero this that (x ∷ e) (y ∷ e') b b' l l' here held pass told stops here' held' pass' told' stops' = absurd held'
one_place files before (a ∷ requests) (suc p) zero this that (x ∷ e) [] b b' l l' here held pass told stops here' held' pass' told' stops' =
    let same : a ≡ that = cc in
    let eq : x ≡ (that.0, b') = same_given that files x (that.0, b') (rw (← same) held.0) (rw (← same) held.1) refl told' in
    absurd (stopped_passes before (that.0, b') l' (front_nil before (that.0, b') l' stops') (rw eq at pass.0))
one_place files before (a ∷ requests) (suc p) (suc q) this that (x ∷ e) [] b b' l l' here held pass told stops here' held' pass' told' stops' = absurd held'
one_place files before (a ∷ requests) (suc p) (suc q) this that (x ∷ e) (y ∷ e') b b' l l' here held pass told stops here' held' pass' told' stops' =
    let eq : y ≡ x = same_given a files y x held'.0 held'.1 held.0 held.1 in
    let pass2 : PassAll (before ++ x ∷ []) e' = subst (λ (z : Given). PassAll (before ++ z ∷ []) e') eq pass'.1 in
    let s : Stops ((before ++ x ∷ []) ++ e) (this.0, b) l = subst (λ (z : List Given). Stops z (this.0, b) l) (sym (append_assoc before (x ∷ []) e)) stops in
    let s' : Stops ((before ++ x ∷ []) ++ e') (that.0, b') l' =
    subst (λ (z : List Given). Stops z (that.0, b') l') (ap (λ (z : Given). before ++ (z ∷ e')) eq ∙ sym (append_assoc before (x ∷ []) e')) stops'
    in one_place files (before ++ x ∷ []) requests p q this that e e' b b' l l' here held.2 pass.1 told s here' held'.2 pass2 told' s'

-- a text that is refused where all that are requests for are accepted
refused_none : (kind : TextKind) (shelf shelf' : ShelfState) (requests : List Request) (line : List ℕ) (files : Files) (given : List Given)
    → RefusedAt shelf shelf' requests kind line → shelf.held ≡ Some files → HeldAs (Some files) requests given → PassAll [] given → ⊥
refused_none kind shelf shelf' requests line files given t told held pass =
    none_stops files [] requests given t.0 t.1 t.2 t.3 line held pass t.4.here (rw told at t.4.held) (rw told at t.6.told) t.6.stops

-- what is held by the names of some requests is one list of texts
pub same_texts : (files : Files) (requests : List Request) (given other : List Given) → HeldAs (Some files) requests given → HeldAs (Some files) requests other → given ≡ other
same_texts files [] [] [] held held' = refl
same_texts files [] [] (h ∷ other) held held' = absurd held'
same_texts files [] (g ∷ given) other held held' = absurd held
same_texts files (a ∷ requests) [] other held held' = absurd held
same_texts files (a ∷ requests) (g ∷ given) [] held held' = absurd held'
same_texts files (a ∷ requests) (g ∷ given) (h ∷ other) held held' =
    let first : g ≡ h = same_given a files g h held.0 held.1 held'.0 held'.1 in
    let later : given ≡ other = same_texts files requests given other held.2 held'.2 in cc

-- what is answered of told texts is answered of what they say
pub same_answer : (command : Command) (files : Files) (requests : List Request) (given : List Given) (saying : Saying command) (ending : Ending) (pieces : List (List ℕ))
    → HeldAs (Some files) requests given → Says command given saying → IsAnswered command (Some files) requests ending pieces
    → (text : List ℕ) × AnswerText command saying ending text
same_answer command files requests given saying ending pieces held says a =
    let text = a.3.text in
    let is = a.3.answer in
    let texts : a.0 ≡ given = same_texts files requests a.0 given a.1 held in
    let says' : Says command given is.saying = subst (λ (g : List Given). Says command g is.saying) texts is.says in
    (text, subst (λ (x : Saying command). AnswerText command x ending text) (one_reading command given is.saying saying says' says) is.answer)

-- what has to be put where the command is done
pub done_ends : (command : Command) (given : List Given) (saying : Saying command) (text : List ℕ) → Says command given saying → AnswerText command saying endings.Done text → Ends command saying Done
done_ends commands.Check given rules text says answer = refl
done_ends commands.Plan given saying text says answer = inl (refl, answer.0, answer.1, answer.2.root)
done_ends commands.Run given saying text says answer = inl (refl, answer.0, answer.1, answer.2.root)
done_ends commands.Frontier given saying text says answer =
    let root = some_listed saying.1 saying.0 says.formed says.of_rules.accepted answer.0 answer.1 answer.2 in inl (refl, root.0, root.1, root.2)
done_ends commands.Verify given saying text says answer = inl (refl, answer.1, answer.2)
done_ends (commands.Gen seed size) given saying text says answer = let least = answer.1.cost in inl (refl, least.0, least.1, least.2.root)

-- and where there is no plan
pub none_ends : (command : Command) (saying : Saying command) (text : List ℕ) → AnswerText command saying endings.NoPlan text → Ends command saying NoPlan
none_ends commands.Check rules text answer = let e : endings.NoPlan ≡ endings.Done = answer.0 in absurd cc
none_ends commands.Plan saying text answer = inr (refl, answer.0)
none_ends commands.Run saying text answer = inr (refl, answer.0)
none_ends commands.Frontier saying text answer = inr (refl, answer.0)
none_ends commands.Verify saying text answer = let e : endings.NoPlan ≡ endings.Done = answer.0 in absurd cc
none_ends (commands.Gen seed size) saying text answer = inr (refl, answer.0)

-- and where the command denies what it is for
denied_ends : (command : Command) (saying : Saying command) (line : List ℕ) → Denied command saying line → Ends command saying NotDerived
denied_ends commands.Check rules line denied = absurd denied
denied_ends commands.Plan saying line denied = absurd denied
denied_ends commands.Run saying line denied = absurd denied
denied_ends commands.Frontier saying line denied = absurd denied
denied_ends commands.Verify saying line denied = inr (refl, denied.no_root)
denied_ends (commands.Gen seed size) saying line denied = absurd denied

-- what is denied of told texts is denied of what they say
same_denial : (command : Command) (files : Files) (requests : List Request) (given other : List Given) (saying : Saying command) (line : List ℕ)
    → HeldAs (Some files) requests given → HeldAs (Some files) requests other → Says command given saying → IsDenied command other line → Denied command saying line
same_denial command files requests given other saying line held held' says is =
    let texts : other ≡ given = same_texts files requests other given held' held in
    let says' : Says command given is.saying = subst (λ (g : List Given). Says command g is.saying) texts is.says in
    subst (λ (x : Saying command). Denied command x line) (one_reading command given is.saying saying says' says) is.denied

-- a text that is refused where all that are asked for are accepted
pub refused_told : (kind : TextKind) (words : CommandLine) (shelf shelf' : ShelfState) (line : List ℕ) (command : Command) (given : List Given) (saying : Saying command)
    → AllTold words shelf command given saying → OfCommand words (λ c. RefusedAt shelf shelf' (requests_of c words) kind line) → ⊥
refused_told kind words shelf shelf' line command given saying told refused =
    refused_none kind shelf shelf' (requests_of command words) line told.files given (rw told.listed at refused) told.told told.held told.accepted

-- where the shelf failed at a file, its count of faults rose
pub unread_rose : (command : Command) (shelf shelf' : ShelfState) (requests : List Request) (line : List ℕ)
    → UnreadAt shelf shelf' requests line ⊎ TableUnreadAt command shelf shelf' requests line → Rose shelf.faults shelf'.faults
unread_rose command shelf shelf' requests line (inl u) = u.4.rose
unread_rose commands.Run shelf shelf' requests line (inr u) = (fails_on shelf u.0 shelf' (true, file_of u.2 u.4.1) u.3.quiet u.4.3).rose
unread_rose commands.Check shelf shelf' requests line (inr u) = absurd u
unread_rose commands.Plan shelf shelf' requests line (inr u) = absurd u
unread_rose commands.Frontier shelf shelf' requests line (inr u) = absurd u
unread_rose commands.Verify shelf shelf' requests line (inr u) = absurd u
unread_rose (commands.Gen seed size) shelf shelf' requests line (inr u) = absurd u

-- what told texts say is one case
pub same_case : (files : Files) (requests : List Request) (given : List Given) (saying : Saying commands.Run) (rules : RuleFile) (query : QueryTree)
    → HeldAs (Some files) requests given → Says commands.Run given saying → SaysOf (Some files) requests rules query → (rules ≡ saying.0) × (query ≡ saying.1)
same_case files requests given saying rules query held says of =
    let texts : of.given ≡ given = same_texts files requests of.given given of.held held in
    let says' = subst (λ (g : List Given). SaysCase (text_at g 0) (text_at g 1) (text_at g 2) rules query) texts of.says in
    one_case (text_at given 0) (text_at given 1) (text_at given 2) rules saying.0 query saying.1 says' says

-- a run came to its tables by texts that say its case
pub same_tables : (files : Files) (shelf mid : ShelfState) (requests : List Request) (given : List Given) (saying : Saying commands.Run) (rules : RuleFile) (query : QueryTree)
    → shelf.held ≡ Some files → HeldAs (Some files) requests given → Says commands.Run given saying → CameToTables shelf mid requests rules query
    → (mid.held ≡ Some files) × (rules ≡ saying.0) × (query ≡ saying.1)
same_tables files shelf mid requests given saying rules query told held says came =
    let of = subst (λ (x : Option Files). SaysOf x requests rules query) told came.case_ in
    let same = same_case files requests given saying rules query held says of in (came.by.held ∙ told, same.0, same.1)

-- no table is refused where those that are told hold rows
no_table_refused : (command : Command) (words : CommandLine) (shelf shelf' : ShelfState) (line : List ℕ) (given : List Given) (saying : Saying command)
    → (told : AllTold words shelf command given saying) → TablesTold command told.files saying → TableRefusedAt command shelf shelf' (requests_of command words) line → ⊥
no_table_refused commands.Run words shelf shelf' line given saying told holds t =
    let same = same_tables told.files shelf t.0 (requests_of commands.Run words) given saying t.1 t.2 told.told told.held told.says t.3 in
    let plan = subst (λ (r : RuleFile). HasPlan r saying.1) same.1 (subst (λ (q : QueryTree). HasPlan t.1 q) same.2 t.3.planned) in
    let refused = subst (λ (q : QueryTree). tables.RefusedAt q t.0 shelf' line) same.2 t.4 in
    told_not_refused saying.1 told.files t.0 shelf' line same.0 (holds plan) refused
no_table_refused commands.Check words shelf shelf' line given saying told holds t = t
no_table_refused commands.Plan words shelf shelf' line given saying told holds t = t
no_table_refused commands.Frontier words shelf shelf' line given saying told holds t = t
no_table_refused commands.Verify words shelf shelf' line given saying told holds t = t
no_table_refused (commands.Gen seed size) words shelf shelf' line given saying told holds t = t

pub complete : (status : Status) (words : CommandLine) (shelf shelf' : ShelfState) (out out' err err' : SinkState) → Answered status words shelf shelf' out out' err err'
    → Complete status words shelf shelf' out out'
complete Done words shelf shelf' out out' err err' answered command given saying told holds quiet_shelf quiet_out =
    let a = rw told.listed at answered in
    let b = subst (λ (x : Option Files). IsAnswered command x (requests_of command words) endings.Done a.1) told.told a.2 in
    let x = same_answer command told.files (requests_of command words) given saying endings.Done a.1 told.held told.says b in
    inr (done_ends command given saying x.0 told.says x.1)
complete NoPlan words shelf shelf' out out' err err' answered command given saying told holds quiet_shelf quiet_out =
    let a = rw told.listed at answered in
    let b = subst (λ (x : Option Files). IsAnswered command x (requests_of command words) endings.NoPlan a.1) told.told a.2 in
    let x = same_answer command told.files (requests_of command words) given saying endings.NoPlan a.1 told.held told.says b in
    inr (none_ends command saying x.0 x.1)
complete Usage words shelf shelf' out out' err err' answered command given saying told holds quiet_shelf quiet_out =
    let e : Some command ≡ None = sym told.listed ∙ answered.2.0 in absurd cc
complete RulesRefused words shelf shelf' out out' err err' answered command given saying told holds quiet_shelf quiet_out =
    absurd (refused_told kinds.Rules words shelf shelf' answered.1 command given saying told answered.2)
complete CatalogueRefused words shelf shelf' out out' err err' answered command given saying told holds quiet_shelf quiet_out =
    absurd (refused_told kinds.Catalogue words shelf shelf' answered.1 command given saying told answered.2)
complete QueryRefused words shelf shelf' out out' err err' answered command given saying told holds quiet_shelf quiet_out =
    absurd (refused_told kinds.Query words shelf shelf' answered.1 command given saying told answered.2)
complete ReadFault words shelf shelf' out out' err err' answered command given saying told holds quiet_shelf quiet_out =
    absurd (quiet_shelf (unread_rose command shelf shelf' (requests_of command words) answered.1 (rw told.listed at answered.2)))
complete WriteFault words shelf shelf' out out' err err' answered command given saying told holds quiet_shelf quiet_out =
    let a = rw told.listed at answered in absurd (quiet_out a.4.rose)
complete Memory words shelf shelf' out out' err err' answered command given saying told holds quiet_shelf quiet_out = inl refl
complete TableRefused words shelf shelf' out out' err err' answered command given saying told holds quiet_shelf quiet_out =
    absurd (no_table_refused command words shelf shelf' answered.1 given saying told holds (rw told.listed at answered.2))
complete NotDerived words shelf shelf' out out' err err' answered command given saying told holds quiet_shelf quiet_out =
    let a = rw told.listed at answered.2 in
    let held = subst (λ (x : Option Files). HeldAs x (requests_of command words) a.1) told.told a.2 in
    inr (denied_ends command saying answered.1 (same_denial command told.files (requests_of command words) given a.1 saying answered.1 told.held held told.says a.4))
complete DerivationRefused words shelf shelf' out out' err err' answered command given saying told holds quiet_shelf quiet_out =
    absurd (refused_told kinds.Derivation words shelf shelf' answered.1 command given saying told answered.2)
complete SessionRefused words shelf shelf' out out' err err' answered command given saying told holds quiet_shelf quiet_out = absurd answered.2
complete CertificateRefused words shelf shelf' out out' err err' answered command given saying told holds quiet_shelf quiet_out = absurd answered.2

-- what is put out is put of texts that are accepted
puts_pass : (command : Command) (told : Option Files) (words : CommandLine) (ending : Ending) (pieces : List (List ℕ)) → Puts command told words ending pieces
    → (given : List Given) × HeldAs told (requests_of command words) given × PassAll [] given
puts_pass command told words ending pieces puts =
    (puts.0, puts.1, puts.2)

stop_none : (words : CommandLine) (shelf : ShelfState) (place : ℕ) (this : Request) (earlier : List Given) (bytes line : List ℕ) (ending : Ending) (pieces : List (List ℕ))
    → (st : StopTold words shelf place this earlier bytes line) → Puts st.command shelf.held words ending pieces → ⊥
stop_none words shelf place this earlier bytes line ending pieces st puts =
    let g = puts_pass st.command (Some st.files) words ending pieces (subst (λ (x : Option Files). Puts st.command x words ending pieces) st.told puts) in
    none_stops st.files [] (requests_of st.command words) g.0 place this earlier bytes line g.1 g.2 st.here st.held st.bytes_held st.stops

stop_no_table : (command : Command) (words : CommandLine) (shelf shelf' : ShelfState) (place : ℕ) (this : Request) (earlier : List Given) (bytes line line' : List ℕ)
    → (st : StopTold words shelf place this earlier bytes line) → command ≡ st.command → TableRefusedAt command shelf shelf' (requests_of command words) line' → ⊥
stop_no_table commands.Run words shelf shelf' place this earlier bytes line line' st is t =
    let of = subst (λ (x : Option Files). SaysOf x (requests_of commands.Run words) t.1 t.2) st.told t.3.case_ in
    let here = subst (λ (c : Command). slice_get (requests_of c words) place ≡ Some this) (sym is) st.here in
    let held = subst (λ (c : Command). HeldAs (Some st.files) (take place (requests_of c words)) earlier) (sym is) st.held in
    none_stops st.files [] (requests_of commands.Run words) of.given place this earlier bytes line of.held of.accepted here held st.bytes_held st.stops
stop_no_table commands.Check words shelf shelf' place this earlier bytes line line' st is t = t
stop_no_table commands.Plan words shelf shelf' place this earlier bytes line line' st is t = t
stop_no_table commands.Frontier words shelf shelf' place this earlier bytes line line' st is t = t
stop_no_table commands.Verify words shelf shelf' place this earlier bytes line line' st is t = t
stop_no_table (commands.Gen seed size) words shelf shelf' place this earlier bytes line line' st is t = t

refused_same : (kind : TextKind) (words : CommandLine) (shelf shelf' : ShelfState) (err err' : SinkState) (place : ℕ) (this : Request) (earlier : List Given) (bytes line line' : List ℕ)
    → (st : StopTold words shelf place this earlier bytes line) → RefusedAt shelf shelf' (requests_of st.command words) kind line' → LinePut err err' line'
    → (refused_status kind ≡ refused_status this.0) × LinePut err err' line
refused_same kind words shelf shelf' err err' place this earlier bytes line line' st t put =
    let u =
    one_place st.files [] (requests_of st.command words) place t.0 this t.1 earlier t.2 bytes t.3 line line' st.here st.held st.accepted st.bytes_held st.stops
    t.4.here (rw st.told at t.4.held) t.4.accepted (rw st.told at t.6.told) t.6.stops
    in
    let same : kind ≡ this.0 = t.5 ∙ sym (ap (λ (x : Request). x.0) u.0) in
    (ap (λ (k : TextKind). refused_status k) same, subst (λ (l : List ℕ). LinePut err err' l) (sym u.1) put)

pub refused_exactly : (status : Status) (words : CommandLine) (shelf shelf' : ShelfState) (out out' err err' : SinkState) → Answered status words shelf shelf' out out' err err'
    → RefusedExactly status words shelf shelf' err err'
refused_exactly Done words shelf shelf' out out' err err' answered place this earlier bytes line st quiet =
    let a = rw st.listed at answered in absurd (stop_none words shelf place this earlier bytes line endings.Done a.1 st a.2)
refused_exactly NoPlan words shelf shelf' out out' err err' answered place this earlier bytes line st quiet =
    let a = rw st.listed at answered in absurd (stop_none words shelf place this earlier bytes line endings.NoPlan a.1 st a.2)
refused_exactly WriteFault words shelf shelf' out out' err err' answered place this earlier bytes line st quiet =
    let a = rw st.listed at answered in absurd (stop_none words shelf place this earlier bytes line a.1 a.2 st a.3)
refused_exactly Usage words shelf shelf' out out' err err' answered place this earlier bytes line st quiet =
    let e : Some st.command ≡ None = sym st.listed ∙ answered.2.0 in absurd cc
refused_exactly RulesRefused words shelf shelf' out out' err err' answered place this earlier bytes line st quiet =
    inr (refused_same kinds.Rules words shelf shelf' err err' place this earlier bytes line answered.1 st (rw st.listed at answered.2) answered.3)
refused_exactly CatalogueRefused words shelf shelf' out out' err err' answered place this earlier bytes line st quiet =
    inr (refused_same kinds.Catalogue words shelf shelf' err err' place this earlier bytes line answered.1 st (rw st.listed at answered.2) answered.3)
refused_exactly QueryRefused words shelf shelf' out out' err err' answered place this earlier bytes line st quiet =
    inr (refused_same kinds.Query words shelf shelf' err err' place this earlier bytes line answered.1 st (rw st.listed at answered.2) answered.3)
refused_exactly ReadFault words shelf shelf' out out' err err' answered place this earlier bytes line st quiet =
    absurd (quiet (unread_rose st.command shelf shelf' (requests_of st.command words) answered.1 (rw st.listed at answered.2)))
refused_exactly Memory words shelf shelf' out out' err err' answered place this earlier bytes line st quiet = inl refl
refused_exactly TableRefused words shelf shelf' out out' err err' answered place this earlier bytes line st quiet =
    absurd (stop_no_table st.command words shelf shelf' place this earlier bytes line answered.1 st refl (rw st.listed at answered.2))
refused_exactly NotDerived words shelf shelf' out out' err err' answered place this earlier bytes line st quiet =
    let a = rw st.listed at answered.2 in
    let held = subst (λ (x : Option Files). HeldAs x (requests_of st.command words) a.1) st.told a.2 in
    absurd (none_stops st.files [] (requests_of st.command words) a.1 place this earlier bytes line held a.3 st.here st.held st.bytes_held st.stops)
refused_exactly DerivationRefused words shelf shelf' out out' err err' answered place this earlier bytes line st quiet =
    inr (refused_same kinds.Derivation words shelf shelf' err err' place this earlier bytes line answered.1 st (rw st.listed at answered.2) answered.3)
refused_exactly SessionRefused words shelf shelf' out out' err err' answered place this earlier bytes line st quiet = absurd answered.2
refused_exactly CertificateRefused words shelf shelf' out out' err err' answered place this earlier bytes line st quiet = absurd answered.2
