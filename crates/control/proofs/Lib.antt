mod Lines
mod MemberLemmas
mod Texts
