use Rattle.std.proofs.Common.{arith, length, length-drop, length-append, ◌∙◌, ap, sym}
use Rattle.sb_text.specs.declared.token.Token.{Token}
use Rattle.sb_text.specs.Front.{gap_at, token_at}
use Rattle.sb_text.proofs.Steps.{starts, goes_behind_gap, goes_behind_token, stops, ends}
use Rattle.sb_text.proofs.reader.lexed.Goals as goal

pub loop-at-init : goal.loop-at-init
loop-at-init c = record {
  whole = rw c.new-tokens.ensures.items (starts c.args.source.now);
  within = omega arith;
  count = omega (arith, ap length c.new-tokens.ensures.items);
}

pub loop-at-preserved-then-skipped-gt0 : goal.loop-at-preserved-then-skipped-gt0
loop-at-preserved-then-skipped-gt0 c =
    let len = ap length c.rest_from-rest.ensures ∙ length-drop c.loop-at.at c.args.source.now in
    record {
      whole = goes_behind_gap c.loop-at.tokens.items c.loop-at.at c.gap-skipped.result c.args.source.now _
          (c.gap-skipped.ensures.value ∙ ap gap_at c.rest_from-rest.ensures)
          (omega arith) (rw (← c.rest_from-rest.ensures) c.gap-skipped.ensures.bound) c.loop-at.invariant.whole;
      within = omega arith;
      count = omega arith;
    }

pub returns-in_default-clause-tokens : goal.returns-in_default-clause-tokens
returns-in_default-clause-tokens c =
    stops c.loop-at.tokens.items c.loop-at.at c.args.source.now _
    (omega arith ∙ c.gap-skipped.ensures.value ∙ ap gap_at c.rest_from-rest.ensures)
    (sym c.in_default.is ∙ c.token.ensures.value ∙ ap token_at c.rest_from-rest.ensures)
    (omega (arith, length-drop c.loop-at.at c.args.source.now)) c.loop-at.invariant.whole

pub loop-at-preserved : goal.loop-at-preserved
loop-at-preserved c =
    let len = ap length c.rest_from-rest.ensures ∙ length-drop c.loop-at.at c.args.source.now in
    record {
      whole = rw (c.in_ok-push.ensures.items, c.rest_from-rest.ensures)
          (goes_behind_token c.loop-at.tokens.items c.loop-at.at (c.in-Some.kind, c.in-Some.len) c.args.source.now _
          (omega arith ∙ c.gap-skipped.ensures.value ∙ ap gap_at c.rest_from-rest.ensures)
          (c.in-Some.ensures.value ∙ ap token_at c.rest_from-rest.ensures)
          c.in-Some.ensures.bound.0 (rw (← c.rest_from-rest.ensures) c.in-Some.ensures.bound.1) c.loop-at.invariant.whole);
      within = omega (arith, c.in-Some.ensures.bound.1);
      count = omega (arith, ap length c.in_ok-push.ensures.items, length-append {A = Token}, c.in-Some.ensures.bound.0);
    }

pub returns-clause-tokens : goal.returns-clause-tokens
returns-clause-tokens c = ends c.loop-at.tokens.items c.loop-at.at c.args.source.now _ (omega arith) c.loop-at.invariant.whole
