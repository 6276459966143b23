use Rattle.std.proofs.Common.{◌<◌, ℕ, List, Bool, cond, ◌++◌, ◌∷◌, [], ◌∙◌, ap, sym, length, arith, nat_eq}
use Rattle.std.specs.List.{list_any}
use Rattle.table_taking.proofs.FirstTables.{next_table}
use Rattle.table_taking.proofs.numbers.tables_of.Goals as goal
use Rattle.table_taking.proofs.numbers.tables_of.Goals.{then-not-contains+in_ok-push, else-not-contains}

pub loop-quant-preserved : goal.loop-quant-preserved
loop-quant-preserved c =
    let made = c.loop-quant.numbers.items in
    let table = c.quant-item.result.table in
    let next : Bool → List ℕ = λ b. cond b made (made ++ table ∷ []) in
    let test =
    c.contains.ensures.value ∙ ap (list_any (λ m. nat_eq m table)) c.deref.ensures.value in
    let within : c.loop-quant.quant-index < length c.args.query.now.quants =
    omega (arith, c.loop-quant-test.true, ap length c.as_slice-quant-items.ensures) in
    next_table c.args.query.now.quants c.loop-quant.quant-index c.quant-item.result made _
    c.contains.result within (rw c.as_slice-quant-items.ensures at c.quant-item.is)
    c.loop-quant.invariant test
    (elim c.if-not-contains.branch [
      | then-not-contains+in_ok-push w ↦ ap (λ v. v.items) w.numbers-is
          ∙ w.in_ok-push.ensures.items ∙ sym (ap next w.if-not-contains.true)
      | else-not-contains w ↦ ap (λ v. v.items) w.numbers-is
          ∙ sym (ap next w.if-not-contains.false)
    ])
