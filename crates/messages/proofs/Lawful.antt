-- Whatever reads as a sheet is lawful. Assumes nothing.
use Rattle.std.proofs.Common.{◌≡◌, ℕ, true, List, Ok}
use Rattle.std.proofs.lemmas.Result.{MatchResult-at_ok}
use Rattle.sheets.specs.declared.sheet.Sheet.{Sheet}
use Rattle.messages.specs.Messages.{decoded, lawful_sheet}
use Rattle.messages.proofs.Canonicals.{MessageRead, Refused, decoded_reads}

pub decoded_lawful : (bs : List ℕ) (sheet : Sheet) → decoded bs ≡ Ok sheet → lawful_sheet sheet ≡ true
decoded_lawful bs sheet e = (MatchResult-at_ok (MessageRead bs) (Refused bs) sheet e (decoded_reads bs)).1
