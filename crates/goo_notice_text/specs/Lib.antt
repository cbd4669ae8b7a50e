pub mod Notice
pub mod NoticeFaults
pub mod NoticeText
