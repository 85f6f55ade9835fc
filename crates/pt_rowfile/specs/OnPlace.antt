-- How far the place of a row is known.
use Rattle.std.specs.Prelude.{◌≡◌, ℕ, ◌-◌, ◌≤◌, ◌==◌, if◌then◌else◌, List, length, Option, Some, None}
use Rattle.std.specs.List.{flat_map, AllByRecursion}
use Rattle.pt_rowfile.specs.declared.record.Record.{Record}
use Rattle.pt_rowfile.specs.Records.{IsRecord, record_bytes}
use Rattle.pt_rowfile.specs.Placed.{place_left}

-- the place after a record of this kind and serial, in the shape of the code
abbrev pub placed : ℕ → ℕ × ℕ → ℕ → Option ℕ → Option ℕ
placed serial head here place = if head.1 == serial then (if head.0 == 1 then Some here else None) else place

-- The records of all the bytes, those that aren't read, and the place by those that are.
pub record IsOnPlace (bytes rest : List ℕ) (serial : ℕ) (found : Option ℕ) : Type 0 where
  pub records : List Record
  pub each : AllByRecursion IsRecord records
  pub text : bytes ≡ flat_map record_bytes records
  pub more : List Record
  pub each_more : AllByRecursion IsRecord more
  pub rest_text : rest ≡ flat_map record_bytes more
  pub most : length rest ≤ length bytes
  pub last : place_left serial records 0 None ≡ place_left serial more (length bytes - length rest) found
