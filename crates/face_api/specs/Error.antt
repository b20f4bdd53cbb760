-- A face's refusal, as faces answer it.
use Rattle.face_api.specs.declared.error.FaceError.{FaceError}
use Rattle.face_api.specs.declared.error.FaceError.TheVariants as face
use Rattle.face_api.specs.declared.error.FacesError.{FacesError}
use Rattle.face_api.specs.declared.error.FacesError.TheVariants.{Fixed, Full, Memory}

abbrev pub faces_error : FaceError → FacesError
faces_error face.Fixed = Fixed
faces_error face.Full = Full
faces_error face.Memory = Memory
