pub mod StartLaws
pub mod FileLaws
pub mod ReadBack
pub mod WriteBack
pub mod RoundTrip
pub mod SaidLaws
pub mod PutLaws
pub mod NoNotes
