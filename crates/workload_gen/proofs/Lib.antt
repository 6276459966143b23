mod DrawLaws
mod TableLaws
mod CatalogueLaws
mod QueryLaws
mod RecordLaws
mod LinkLaws
mod StatementLaws
mod NumberLaws
mod CatalogueTrees
mod QueryTrees
mod AcceptedLaws
pub mod Laws
