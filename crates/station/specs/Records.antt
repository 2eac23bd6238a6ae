-- What each record that crosses a door says, as the flat form of the paper's answer: number, first and second of a refusal, else 0, 0, 0 and the fields.
use Rattle.std.specs.Prelude.{◌≡◌, ℕ, ◌-◌, ◌/◌, ◌%◌, ◌^◌, List, length}
use Rattle.paper.specs.Choice.{pick}
use Rattle.paper.specs.Answer.{Refusal, Answer, accepted, refused, Read, ◌leaving◌, written}
use Rattle.paper.specs.Kind.{mode_of}
use Rattle.paper.specs.Request.{Request}
use Rattle.paper.specs.Response.{Response, AfterMode, ended, block_and_format, after_mode}
use Rattle.paper.specs.Rewriting.{rewritten_into}
use Rattle.paper.specs.RoutineControl.{RoutineRequest, RoutineResponse, byte_of}
use Rattle.paper.specs.TroubleCode.{TroubleCode, Next, none, next}
use Rattle.station.specs.declared.records.FileTransferRecord.{FileTransferRecord}
use Rattle.station.specs.declared.records.RoutineRecord.{RoutineRecord}
use Rattle.station.specs.declared.records.WrittenRecord.{WrittenRecord}
use Rattle.station.specs.declared.records.RewrittenRecord.{RewrittenRecord}
use Rattle.station.specs.declared.records.DeskRecord.{DeskRecord}
use Rattle.station.specs.declared.records.TroubleCodeRecord.{TroubleCodeRecord}
use Rattle.station.specs.declared.records.NextTroubleCodeRecord.{NextTroubleCodeRecord}

-- ---- file transfer messages, of a message of n bytes
abbrev pub refused_transfer : Refusal → FileTransferRecord
refused_transfer e = record {
  number = e.number;
  first = e.first;
  second = e.second;
  kind = 0;
  start = 0;
  len = 0;
  format = 0;
  uncompressed_high = 0;
  uncompressed_low = 0;
  compressed_high = 0;
  compressed_low = 0;
  position = 0;
  tail = 0;
}

-- the name begins at 3
abbrev pub request_record : ℕ → Answer (Read Request) → FileTransferRecord
request_record n (accepted (m leaving t)) = record {
  number = 0;
  first = 0;
  second = 0;
  kind = mode_of m.kind;
  start = 3;
  len = length m.name;
  format = m.format;
  uncompressed_high = m.uncompressed / 2 ^ 64;
  uncompressed_low = m.uncompressed % 2 ^ 64;
  compressed_high = m.compressed / 2 ^ 64;
  compressed_low = m.compressed % 2 ^ 64;
  position = 0;
  tail = n - length t;
}
request_record n (refused e) = refused_transfer e

-- the block length begins at 2, where the kind has one
abbrev pub block_begins : AfterMode → ℕ
block_begins ended = 0
block_begins (block_and_format more) = 2

abbrev pub response_record : ℕ → Answer (Read Response) → FileTransferRecord
response_record n (accepted (m leaving t)) = record {
  number = 0;
  first = 0;
  second = 0;
  kind = mode_of m.kind;
  start = block_begins (after_mode m.kind);
  len = length m.block;
  format = m.format;
  uncompressed_high = m.uncompressed / 2 ^ 64;
  uncompressed_low = m.uncompressed % 2 ^ 64;
  compressed_high = m.compressed / 2 ^ 64;
  compressed_low = m.compressed % 2 ^ 64;
  position = m.position;
  tail = n - length t;
}
response_record n (refused e) = refused_transfer e

-- ---- routine messages: the record begins at 3
abbrev pub refused_routine : Refusal → RoutineRecord
refused_routine e = record { number = e.number; first = e.first; second = e.second; suppress = 0; sub_function = 0; identifier = 0; start = 0; len = 0 }

abbrev pub routine_request_record : Answer (Read RoutineRequest) → RoutineRecord
routine_request_record (accepted (m leaving t)) = record {
  number = 0;
  first = 0;
  second = 0;
  suppress = pick m.suppress 1 0;
  sub_function = byte_of m.sub_function;
  identifier = m.identifier;
  start = 3;
  len = length m.«record»;
}
routine_request_record (refused e) = refused_routine e

abbrev pub routine_response_record : Answer (Read RoutineResponse) → RoutineRecord
routine_response_record (accepted (m leaving t)) = record {
  number = 0;
  first = 0;
  second = 0;
  suppress = 0;
  sub_function = byte_of m.sub_function;
  identifier = m.identifier;
  start = 3;
  len = length m.«record»;
}
routine_response_record (refused e) = refused_routine e

-- ---- writing
abbrev pub written_record : Answer ℕ → WrittenRecord
written_record (accepted n) = record { number = 0; first = 0; second = 0; written = n }
written_record (refused e) = record { number = e.number; first = e.first; second = e.second; written = 0 }

-- a message was written into a buffer
abbrev pub WroteRecord : Answer (List ℕ) → List ℕ → WrittenRecord → List ℕ → Type 0
WroteRecord message old r new = (r ≡ written_record (written message old).answer) × (new ≡ (written message old).contents)

abbrev pub refused_rewriting : Refusal → RewrittenRecord
refused_rewriting e = record { number = e.number; first = e.first; second = e.second; written = 0; tail = 0 }

-- of a message of n bytes: the tail begins where it ends
abbrev pub rewritten_record : ℕ → Answer (Read ℕ) → RewrittenRecord
rewritten_record n (accepted (k leaving t)) = record { number = 0; first = 0; second = 0; written = k; tail = n - length t }
rewritten_record n (refused e) = refused_rewriting e

-- a message of n bytes was rewritten into a buffer
abbrev pub RewroteRecord : ℕ → Answer (Read (List ℕ)) → List ℕ → RewrittenRecord → List ℕ → Type 0
RewroteRecord n message old r new = (r ≡ rewritten_record n (rewritten_into message old).answer) × (new ≡ (rewritten_into message old).contents)

-- ---- the desk
abbrev pub desk_record : Answer (Unit {0}) → DeskRecord
desk_record (accepted passed) = record { number = 0; first = 0; second = 0 }
desk_record (refused e) = record { number = e.number; first = e.first; second = e.second }

-- ---- trouble codes
abbrev pub code_record : Answer TroubleCode → TroubleCodeRecord
code_record (accepted c) = record { number = 0; first = 0; second = 0; high = c.high; middle = c.middle; low = c.low }
code_record (refused e) = record { number = e.number; first = e.first; second = e.second; high = 0; middle = 0; low = 0 }

abbrev pub refused_next : Refusal → NextTroubleCodeRecord
refused_next e = record { number = e.number; first = e.first; second = e.second; found = 0; high = 0; middle = 0; low = 0; tail = 0 }

-- of a buffer of n bytes
abbrev pub next_record : ℕ → Answer Next → NextTroubleCodeRecord
next_record n (accepted none) = record { number = 0; first = 0; second = 0; found = 0; high = 0; middle = 0; low = 0; tail = 0 }
next_record n (accepted (next (c leaving t))) = record { number = 0; first = 0; second = 0; found = 1; high = c.high; middle = c.middle; low = c.low; tail = n - length t }
next_record n (refused e) = refused_next e
