-- What weighing a query changes: the selectivities of its predicates, which it doesn't look at.
use Rattle.std.proofs.Common.{◌≡◌, suc, Bool, ◌&&◌, List, [], ◌∷◌, refl, ap, sym, subst, ◌∙◌}
use Rattle.std.specs.Prelude.{length, map, ◌≤◌}
use Rattle.std.specs.List.{list_all}
use Rattle.star_model.specs.Selectivity.{weighed_pred, weighed}
use Rattle.star_model.specs.WellFormed.{WellFormedQuery}
use Rattle.star_model.specs.declared.query.Pred.{Pred}
use Rattle.star_model.specs.declared.query.Query.{Query}
use Rattle.star_model.specs.declared.selects.SelectEntry.{SelectEntry}

map_of_map : {A B C : Type 0} (f : B → C) (g : A → B) (h : A → C) → ((x : A) → f (g x) ≡ h x) → (xs : List A) → map f (map g xs) ≡ map h xs
map_of_map f g h e [] = refl
map_of_map f g h e (x ∷ xs) = let head = e x in let tail = map_of_map f g h e xs in (λ i. head i ∷ tail i)

length_of_map : {A B : Type 0} (f : A → B) (xs : List A) → length (map f xs) ≡ length xs
length_of_map f [] = refl
length_of_map f (x ∷ xs) = ap suc (length_of_map f xs)

all_of_map : {A B : Type 0} (f : A → B) (test : B → Bool) (xs : List A) → list_all test (map f xs) ≡ list_all (λ x. test (f x)) xs
all_of_map f test [] = refl
all_of_map f test (x ∷ xs) = ap (λ b. test (f x) && b) (all_of_map f test xs)

-- a query that was weighed before is weighed as the one that was not
pub weighed_again : (a b : List SelectEntry) (q : Query) → weighed a (weighed b q) ≡ weighed a q
unfolding weighed
weighed_again a b q = ap (λ ps. record q { preds = ps }) (map_of_map (weighed_pred a q) (weighed_pred b q) (weighed_pred a q) (λ p. refl) q.preds)

pub weighed_formed : (selects : List SelectEntry) (q : Query) → WellFormedQuery q → WellFormedQuery (weighed selects q)
unfolding weighed
weighed_formed selects q formed =
    record {
      catalogue = formed.catalogue;
      some_quantifiers = formed.some_quantifiers;
      some_columns = formed.some_columns;
      few_predicates = subst (λ n. n ≤ 16) (sym (length_of_map (weighed_pred selects q) q.preds)) formed.few_predicates;
      few_in_order = formed.few_in_order;
      tables = formed.tables;
      names = formed.names;
      quantifiers_differ = formed.quantifiers_differ;
      select = formed.select;
      order = formed.order;
      columns = all_of_map (weighed_pred selects q) _ q.preds ∙ formed.columns;
      constants = all_of_map (weighed_pred selects q) _ q.preds ∙ formed.constants;
      one_type = all_of_map (weighed_pred selects q) _ q.preds ∙ formed.one_type;
      site = formed.site;
    }
