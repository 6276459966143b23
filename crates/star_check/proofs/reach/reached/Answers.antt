use Rattle.std.proofs.Common.{◌≡◌, ℕ, List, length, ap, sym, subst, ◌∙◌}
use Rattle.star_model.specs.declared.rules.StarDef.{StarDef}
use Rattle.star_check.specs.Reaching.{joined_below, AreDirect, AreReached}
use Rattle.star_check.proofs.Rows.{written}
use Rattle.star_check.proofs.Closing.{joined_length}
use Rattle.star_check.proofs.Reached.{closes}
use Rattle.star_check.proofs.reach.reached.Goals as goal

pub returns : goal.returns
returns c =
    let items : List ℕ = c.in_ok-rows.rows.items in
    let new : c.join_all.new.rows ≡ joined_below (length items) items =
    c.join_all.ensures ∙ ap (λ rows. joined_below (length rows) rows) c.deref_mut.ensures.value in
    let long : length c.join_all.new.rows ≡ length items = ap length new ∙ joined_length (length items) items in
    let whole = written c.join_all.new.rows items c.in_ok-rows.rows.len (sym c.deref_mut.ensures.len ∙ ap length c.deref_mut.ensures.value) long in
    subst (AreReached c.args.rules.now) (sym (whole ∙ new)) (closes c.args.rules.now items c.requires.own (subst (λ (stars : List StarDef). AreDirect stars items) c.as_slice.ensures c.in_ok-rows.ensures))
