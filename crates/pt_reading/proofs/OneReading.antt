-- A piece has one reading at most.
use Rattle.std.proofs.Common.{◌≡◌, ℕ, List, refl, ap, subst}
use Rattle.pt_token.specs.declared.token.Token.{Token}
use Rattle.pt_token.proofs.OneLexing as lexing
use Rattle.pt_parse_expr.specs.Symbols.{symbols}
use Rattle.pt_parse_alter.proofs.Whole as whole
use Rattle.pt_reading.specs.declared.reading.Reading.{Reading}
use Rattle.pt_reading.specs.declared.reading.Reading.TheVariants.{Spelled, Syntax, TooDeep, LongName}
use Rattle.pt_reading.specs.Reading.{AreRead, faulty, lexed, OneReading}

of_tokens : (piece : List ℕ) (tokens : List Token) (x y : Reading) → AreRead piece tokens x → AreRead piece tokens y → x ≡ y
of_tokens piece tokens (Spelled a) (Spelled b) d e = ap Spelled (whole.one_reading.one (symbols piece tokens) a b d.spelled e.spelled)
of_tokens piece tokens (Spelled a) Syntax d e = absurd (e.unspelled a d.spelled d.known)
of_tokens piece tokens (Spelled a) TooDeep d e = absurd (d.limits.shallow e)
of_tokens piece tokens (Spelled a) LongName d e = absurd (d.limits.short e.long)
of_tokens piece tokens Syntax (Spelled b) d e = absurd (d.unspelled b e.spelled e.known)
of_tokens piece tokens Syntax Syntax d e = refl
of_tokens piece tokens Syntax TooDeep d e = absurd (d.limits.shallow e)
of_tokens piece tokens Syntax LongName d e = absurd (d.limits.short e.long)
of_tokens piece tokens TooDeep (Spelled b) d e = absurd (e.limits.shallow d)
of_tokens piece tokens TooDeep Syntax d e = absurd (e.limits.shallow d)
of_tokens piece tokens TooDeep TooDeep d e = refl
of_tokens piece tokens TooDeep LongName d e = absurd (e.shallow d)
of_tokens piece tokens LongName (Spelled b) d e = absurd (e.limits.short d.long)
of_tokens piece tokens LongName Syntax d e = absurd (e.limits.short d.long)
of_tokens piece tokens LongName TooDeep d e = absurd (d.shallow e)
of_tokens piece tokens LongName LongName d e = refl

pub one : OneReading
one piece _ _ (faulty d) (faulty e) = refl
one piece _ y (faulty {fault = fault} d) (lexed {tokens = tokens} l e) = absurd (lexing.one_lexing.apart piece tokens fault l d)
one piece x _ (lexed {tokens = tokens} l d) (faulty {fault = fault} e) = absurd (lexing.one_lexing.apart piece tokens fault l e)
one piece x y (lexed {tokens = tokens} l d) (lexed {tokens = others} k e) =
    of_tokens piece others x y (subst (λ ts. AreRead piece ts x) (lexing.one_lexing.tokens piece tokens others l k) d) e
