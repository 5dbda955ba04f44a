pub mod TextLaws
pub mod LineLaws
pub mod ReportLaws
pub mod AdmissibleLaws
pub mod CutLaws
pub mod KeyLaws
pub mod RefusalLaws
