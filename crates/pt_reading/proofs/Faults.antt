-- A piece with a lexical fault is no statement.
use Rattle.std.proofs.Common.{◌≡◌, ℕ, List, true}
use Rattle.std.proofs.lemmas.Bool.{false≢true}
use Rattle.pt_token.specs.declared.fault.LexFault.{LexFault}
use Rattle.pt_token.specs.declared.fault.LexFault.TheVariants.{BadByte, OpenQuote, OpenComment, NoMemory}
use Rattle.pt_token.specs.Tokens.{IsFault}
use Rattle.pt_reading.specs.declared.reading.Reading.TheVariants.{Syntax}
use Rattle.pt_reading.specs.Reading.{Reads, faulty, is_lexical}

pub fault_read : (piece : List ℕ) (fault : LexFault) → is_lexical fault ≡ true → IsFault piece fault → Reads piece Syntax
fault_read piece (BadByte place) lexical is = faulty is
fault_read piece (OpenQuote place) lexical is = faulty is
fault_read piece (OpenComment place) lexical is = faulty is
fault_read piece NoMemory lexical is = absurd (false≢true lexical)
