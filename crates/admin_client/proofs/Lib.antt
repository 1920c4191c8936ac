mod AskLemmas
mod ExtractLemmas
mod ServedLemmas
mod StatementLemmas
