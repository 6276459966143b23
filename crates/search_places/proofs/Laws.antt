-- The laws that other crates may cite. Each is the clause of a function of the module `theorems`.
pub use Rattle.search_places.proofs.Down.{body_is_lower}
pub use Rattle.search_places.proofs.Within.{input_part, left_part, right_part, reference_part, to_root, root_is_called, to_body, one_bound, member_bound}
pub use Rattle.search_places.proofs.Sound.{few_alternatives, few_arguments, to_alternative}
pub use Rattle.search_places.proofs.SharedLaws.{references_none, glued_none, reference_there, glued_there, references_kept, glued_put}
