-- Why the system could not read or write something.
-- Manual: nothing; this is (own).
use Rattle.std.specs.Prelude.{List, None, Option, Some, codes, unsigned_abs, ℕ, ℤ, ◌++◌}
use Rattle.std.specs.Fmt.{decimal}
use Rattle.std.specs.IoError.{error_kind, raw_os_error}
use Rattle.std.specs.declared.io.Error.{Error}
use Rattle.std.specs.declared.io.ErrorKind.{ErrorKind}
use Rattle.std.specs.declared.io.ErrorKind.TheVariants.{NotFound, PermissionDenied, IsADirectory, NotADirectory, StorageFull, QuotaExceeded, ReadOnlyFilesystem, InvalidFilename, BrokenPipe}
use Rattle.occ_files.specs.declared.reason.Reason.{Reason}
use Rattle.occ_files.specs.declared.reason.Reason.TheVariants.{Missing, Denied, Folder, NoFolder, Full, ReadOnly, LongName, Unread, Other}

-- the system's number of an error, and 0 where it has none
abbrev pub number_in : Option ℤ → ℕ
number_in None = 0
number_in (Some code) = unsigned_abs code

-- a kind of error with words of its own, and the number of any other
abbrev pub reason_in : ErrorKind → ℕ → Reason
reason_in NotFound number = Missing
reason_in PermissionDenied number = Denied
reason_in IsADirectory number = Folder
reason_in NotADirectory number = NoFolder
reason_in StorageFull number = Full
reason_in QuotaExceeded number = Full
reason_in ReadOnlyFilesystem number = ReadOnly
reason_in InvalidFilename number = LongName
reason_in BrokenPipe number = Unread
reason_in kind number = Other number

abbrev pub reason_of : Error → Reason
reason_of error = reason_in (error_kind error) (number_in (raw_os_error error))

-- what is said of it
abbrev pub reason_text : Reason → List ℕ
reason_text Missing = codes "no such file or folder"
reason_text Denied = codes "permission denied"
reason_text Folder = codes "it is a folder"
reason_text NoFolder = codes "a part of the path is no folder"
reason_text Full = codes "no room is left"
reason_text ReadOnly = codes "nothing can be written there"
reason_text LongName = codes "the name is too long"
reason_text Unread = codes "nobody reads it"
reason_text (Other number) = codes "error " ++ decimal number ++ codes " of the system"
