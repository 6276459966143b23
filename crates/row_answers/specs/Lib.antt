pub mod RowsTexts
