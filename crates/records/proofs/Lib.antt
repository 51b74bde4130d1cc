pub mod BufferLaws
pub mod RecordLaws
pub mod FieldLaws
