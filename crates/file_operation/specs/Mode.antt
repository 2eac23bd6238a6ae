-- The paper's kind for each kind of the code, and what an answer about a mode byte says.
use Rattle.std.specs.Prelude.{Result, Ok, Err}
use Rattle.paper.specs.Kind.{Kind, add_file, delete_file, replace_file, read_file, read_dir, resume_file}
use Rattle.paper.specs.Answer.{Answer, accepted, refused}
use Rattle.wire.specs.Refusals.{row}
use Rattle.wire.specs.declared.refusal.Refusal.{Refusal}
use Rattle.file_operation.specs.declared.mode.FileOperationMode.{FileOperationMode}
use Rattle.file_operation.specs.declared.mode.FileOperationMode.TheVariants.{AddFile, DeleteFile, ReplaceFile, ReadFile, ReadDir, ResumeFile}

abbrev pub kind_of : FileOperationMode → Kind
kind_of AddFile = add_file
kind_of DeleteFile = delete_file
kind_of ReplaceFile = replace_file
kind_of ReadFile = read_file
kind_of ReadDir = read_dir
kind_of ResumeFile = resume_file

abbrev pub mode_said : Result FileOperationMode Refusal → Answer Kind
mode_said (Ok k) = accepted (kind_of k)
mode_said (Err e) = refused (row e)
