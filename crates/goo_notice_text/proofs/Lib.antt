pub mod NoticeLimits
pub mod RuleLemmas
pub mod NoticeLemmas
pub mod Versions
pub mod NoticeUtf8Lemmas
pub mod NoticeTextLemmas
